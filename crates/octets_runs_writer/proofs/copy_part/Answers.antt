-- One law of copies that are cut to the room.
use Rattle.std.proofs.Common.{ap, ◌∙◌, arith}
use Rattle.octets.specs.Table.{octets_at}
use Rattle.octets.proofs.Codec.{part_length}
use Rattle.octets.proofs.Fill.{octets_front, octets_count}
use Rattle.octets.proofs.Store.{store_cut}
use Rattle.octets_runs_writer.proofs.copy_part.Goals as goal

pub returns : goal.returns
returns c =
    let a = c.args in
    let s = a.bytes.now in
    store_cut (octets_at s a.i a.n) a.out.now _ a.at _ _ c.min-to.ensures (omega (arith, octets_count s a.i a.n))
    (c.read_into.ensures ∙ ap (octets_at s a.i) (part_length a.out.now c.min-to.result _ (omega arith)) ∙ octets_front s a.i _ a.n (omega arith))
