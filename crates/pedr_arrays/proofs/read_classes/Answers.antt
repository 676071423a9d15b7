-- One law of loops that fill a list, at the class of each shot.
use mathlib.Core.Path.{refl, ap, ◌∙◌}
use native.Mathlib.Omega.{arith}
use Rattle.pedr_flags.specs.Class.{class_of}
use Rattle.pedr_arrays.specs.Arrays.{classes_of}
use Rattle.octets.proofs.Fill.{fill_more, fill_done}
use Rattle.pedr_arrays.proofs.read_classes.Invariants.{class_at}
use Rattle.pedr_arrays.proofs.read_classes.Goals as goal

pub loop-k-init : goal.loop-k-init
loop-k-init c = (omega arith, refl)

pub loop-k-preserved : goal.loop-k-preserved
loop-k-preserved c =
    let l = c.loop-k in
    fill_more (class_at c.args.bytes.now) _ l.class-items l.k _ c.loop-k-test.true (c.from.ensures ∙ ap class_of c.u16_at.ensures) l.invariant

pub returns : goal.returns
unfolding classes_of
returns c =
    let l = c.loop-k in
    fill_done (class_at c.args.bytes.now) _ l.class-items l.k c.loop-k-test.false l.invariant
