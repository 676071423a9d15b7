-- One law of loops that fill a list, at the tests of each shot.
use Prim.Native.Nat.{◌<◌}
use mathlib.Core.Path.{refl}
use native.Mathlib.Omega.{arith}
use Rattle.octets.proofs.Fill.{fill_more, fill_done}
use Rattle.pedr_flags.specs.Descriptor.{all_failures_of}
use Rattle.pedr_flags.proofs.Words.{shot_tests}
use Rattle.pedr_flags.proofs.read_all_failures.Invariants.{failures_at}
use Rattle.pedr_flags.proofs.read_all_failures.Goals as goal

pub loop-k-init : goal.loop-k-init
loop-k-init c = (omega arith, refl)

pub loop-k-preserved : goal.loop-k-preserved
loop-k-preserved c =
    let l = c.loop-k in
    let h : l.k < 20 = omega arith in
    let high = c.descriptor_word-high in
    let low = c.descriptor_word-low in
    let s = c.args.bytes.now in
    let tests = shot_tests s (λ i. (c.type_inv.bytes i).fits) low.result high.result l.k _ _ _ _ _ low.ensures high.ensures h
    c.is_set.ensures c.is_set-in-loop-k.ensures c.is_set-in-loop-k-2.ensures
    c.is_set-in-loop-k-3.ensures c.is_set-in-loop-k-4.ensures in
    fill_more (failures_at s) _ l.shot-items l.k _ h tests l.invariant

pub returns : goal.returns
unfolding all_failures_of
returns c =
    let l = c.loop-k in
    fill_done (failures_at c.args.bytes.now) _ l.shot-items l.k c.loop-k-test.false l.invariant
