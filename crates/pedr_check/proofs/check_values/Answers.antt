-- Each return is one rung of the ladder.
use Prim.Native.Nat.{ℕ, ◌<◌, ◌≤◌}
use mathlib.Core.Path.{◌≡◌, ap, ◌∙◌}
use mathlib.Core.Bool.{true, false}
use native.Mathlib.Omega.{arith}
use lib.IntN.{ℤ, nat_abs}
use mir.Syntax.{w32}
use mir.Val.{SFits, to_z, of_z}
use mir.ValLaws.{to_z-of_z}
use Rattle.std.proofs.lemmas.Bool.Decides.{nat_tests}
use Rattle.octets.specs.Refusal.{within}
use Rattle.octets.proofs.Ladder.{pass, fail, rungs}
use Rattle.pedr_check.specs.Refusal.{values_refusal}
use Rattle.pedr_check.proofs.check_values.Goals as goal

-- the absolute value that is tested is the number's
size : (r : ℕ) (x : ℤ) → SFits w32 x → r ≡ nat_abs (to_z w32 (of_z w32 x)) → r ≡ nat_abs x
size r x fits e = e ∙ ap nat_abs (to_z-of_z w32 x fits)

pub returns-then-unsigned_abs-gt-MOST_MICROS : goal.returns-then-unsigned_abs-gt-MOST_MICROS
unfolding values_refusal
returns-then-unsigned_abs-gt-MOST_MICROS c =
    let m = size _ _ c.ranges.micros c.unsigned_abs.ensures.value in
    let n : 999999 < nat_abs c.args.micros = omega arith in search rungs depth 10

pub returns-then-unsigned_abs-gt-MOST_LATITUDE : goal.returns-then-unsigned_abs-gt-MOST_LATITUDE
unfolding values_refusal
returns-then-unsigned_abs-gt-MOST_LATITUDE c =
    let m = size _ _ c.ranges.micros c.unsigned_abs.ensures.value in
    let l = size _ _ c.ranges.latitude c.unsigned_abs-2.ensures.value in
    let i : nat_abs c.args.micros ≤ 999999 = omega arith in
    let n : 90000000 < nat_abs c.args.latitude = omega arith in search rungs depth 10

pub returns-then-not-contains : goal.returns-then-not-contains
unfolding values_refusal
returns-then-not-contains c =
    let m = size _ _ c.ranges.micros c.unsigned_abs.ensures.value in
    let l = size _ _ c.ranges.latitude c.unsigned_abs-2.ensures.value in
    let i : nat_abs c.args.micros ≤ 999999 = omega arith in
    let j : nat_abs c.args.latitude ≤ 90000000 = omega arith in
    let e = c.if-not-contains.ensures in
    let w : within 1 7 c.args.frame_index ≡ false = grind (arith, nat_tests, e.cases, c.new.ensures.start, c.new.ensures.end) in search (fail, rungs) depth 10

pub returns : goal.returns
unfolding values_refusal
returns c =
    let m = size _ _ c.ranges.micros c.unsigned_abs.ensures.value in
    let l = size _ _ c.ranges.latitude c.unsigned_abs-2.ensures.value in
    let i : nat_abs c.args.micros ≤ 999999 = omega arith in
    let j : nat_abs c.args.latitude ≤ 90000000 = omega arith in
    let e = c.if-not-contains.ensures in
    let w : within 1 7 c.args.frame_index ≡ true = grind (arith, nat_tests, e.cases, c.new.ensures.start, c.new.ensures.end) in search (pass, rungs) depth 10
