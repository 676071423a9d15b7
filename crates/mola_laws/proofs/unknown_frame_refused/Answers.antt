-- Such a block has no carried bytes and is of another frame than the index, whatever it is.
use lib.Dec.{eqb}
use lib.ListN.{length}
use Rattle.octets.specs.Refusal.{refuse◌unless◌else◌, ◌then◌}
use Rattle.pedr_arrays.specs.Uninterpreted.{uninterpreted_count}
use Rattle.pedr_write_check.specs.Refusal.{given_refusal}
use Rattle.pedr_write_refusal.specs.Refusal.{write_refusal}
use Rattle.pedr_block_c.proofs.Back.{unknown_frame}
use Rattle.mola_laws.specs.BlockFrame.{UnknownFrameRefused}
use Rattle.mola_laws.proofs.unknown_frame_refused.Goals as goal

refused : UnknownFrameRefused
unfolding write_refusal refuse◌unless◌else◌
refused f n a c x out h =
    let u = unknown_frame n f.receiver.frame_index h in
    λ i. given_refusal f a then
    refuse 49 unless eqb (length c) (u.1 i) else
    refuse 49 unless eqb (length x) uninterpreted_count else
    refuse 41 unless eqb (length out) 776 else
    refuse 42 unless u.0 i else
    0

pub returns : goal.returns
returns c = refused
