-- The part is the whole packet.
use mathlib.Core.Path.{sym, ap, ◌∙◌}
use mathlib.Core.List.{List}
use Prim.Native.Nat.{ℕ}
use native.Mathlib.Omega.{arith}
use lib.Seq.{take_all, length-take-le}
use Rattle.octets.specs.Bytes.{put}
use Rattle.reorder_offer.proofs.put_packet.Goals as goal

pub slice_bounds-write_into-end : goal.slice_bounds-write_into-end
slice_bounds-write_into-end c = sym (length-take-le 1080 c.before.before.before.args.packet.now (omega (arith, c.before.before.before.requires)))

pub returns : goal.returns
returns c =
    let k = c in
    let a = k.args in
    c.write_into.ensures
    ∙ ap (λ (b : List ℕ). put a.store.now a.at b) (take_all 1080 a.packet.now (omega (arith, k.requires)))
