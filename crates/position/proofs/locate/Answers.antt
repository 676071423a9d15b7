-- Every step stays in an i64, so that what is computed is what `position` says.
use Rattle.std.proofs.Common.{◌≡◌, ◌^◌, ◌<◌, ◌≤◌, sym, refl, ap, ◌∙◌, arith, ℤ, pos, negsuc, ◌+ℤ◌, ◌-ℤ◌, ◌*ℤ◌, to_z, of_z, w64}
use Rattle.std.proofs.lemmas.Int.{ints}
use lib.IntN.{nat_abs}
use lib.Signed.{shr_z}
use Rattle.octets.proofs.Ladder.{pass_le, fail_le, say_refused, say_answered}
use Rattle.position.specs.Position.{position}
use Rattle.position.proofs.locate.Goals as goal
use Rattle.position.proofs.locate.Goals.{After-rounds, After-unsigned_abs}

-- a quotient is no larger than what is divided
small : (x : ℤ) → nat_abs x < 2 ^ 40 → nat_abs (shr_z x 229376) < 2 ^ 40
small (pos a) h = omega arith
small (negsuc a) h = omega arith

module _ (c : After-rounds) where
  abbrev counted : ℤ
  counted = pos c.args.count -ℤ pos c.args.anchor.count

  abbrev elapsed : ℤ
  elapsed = pos c.args.time -ℤ pos c.args.anchor.time

  abbrev rest : ℤ
  rest = elapsed +ℤ pos c.args.tolerance -ℤ pos 14 *ℤ counted

  abbrev p : ℤ
  p = counted +ℤ pos 16384 *ℤ shr_z rest 229376

  rounds_small : nat_abs (shr_z rest 229376) < 2 ^ 40
  rounds_small = small rest (omega (arith, ints))

  rounds_is : c.rounds.result ≡ shr_z rest 229376
  rounds_is = c.rounds.ensures ∙ ap (λ (x : ℤ). shr_z x 229376) (omega (arith, ints))

  p_is : to_z w64 (of_z w64 (to_z w64 (of_z w64 (to_z w64 (of_z w64 c.from.result) -ℤ to_z w64 (of_z w64 c.from-2.result))) +ℤ to_z w64 (of_z w64 (pos 16384 *ℤ to_z w64 (of_z w64 c.rounds.result))))) ≡ p
  p_is = omega (arith, ints, rounds_is, rounds_small)

  apart_is : to_z w64 (of_z w64 (to_z w64 (of_z w64 (pos 14 *ℤ p)) -ℤ to_z w64 (of_z w64 (to_z w64 (of_z w64 c.from-3.result) -ℤ to_z w64 (of_z w64 c.from-4.result))))) ≡ pos 14 *ℤ p -ℤ elapsed
  apart_is = omega (arith, ints, rounds_small)

-- what `unsigned_abs` gave
far_is : (c : After-unsigned_abs) → c.unsigned_abs.result ≡ nat_abs (pos 14 *ℤ p c.before -ℤ elapsed c.before)
far_is c = c.unsigned_abs.ensures.value ∙ simp (p_is c.before, apart_is c.before)

pub overflow_sub-elapsed-2 : goal.overflow_sub-elapsed-2
overflow_sub-elapsed-2 c = omega (arith, ints)

pub overflow_mul-p : goal.overflow_mul-p
overflow_mul-p c = omega (arith, ints, rounds_is c, rounds_small c)

pub overflow_add-p : goal.overflow_add-p
overflow_add-p c = omega (arith, ints, rounds_is c, rounds_small c)

pub overflow_mul-p-2 : goal.overflow_mul-p-2
overflow_mul-p-2 c = omega (arith, ints, rounds_is c, rounds_small c)

pub overflow_sub-p : goal.overflow_sub-p
overflow_sub-p c = omega (arith, ints, rounds_is c, rounds_small c)

pub returns-then-unsigned_abs-from : goal.returns-then-unsigned_abs-from
unfolding position
returns-then-unsigned_abs-from c =
    let u = (goal.at.returns-then-unsigned_abs-from c).After-unsigned_abs in
    let k = u.before in
    let near : nat_abs (pos 14 *ℤ p k -ℤ elapsed k) ≤ c.args.tolerance = omega (arith, far_is u) in
    say_answered _ (p k) _ (sym (pass_le (nat_abs (pos 14 *ℤ p k -ℤ elapsed k)) c.args.tolerance 21 0 0 near refl)) (p_is k)

pub returns-else-unsigned_abs-from : goal.returns-else-unsigned_abs-from
unfolding position
returns-else-unsigned_abs-from c =
    let u = (goal.at.returns-else-unsigned_abs-from c).After-unsigned_abs in
    let k = u.before in
    let far : c.args.tolerance < nat_abs (pos 14 *ℤ p k -ℤ elapsed k) = omega (arith, far_is u) in
    say_refused 21 _ (p k) (fail_le (nat_abs (pos 14 *ℤ p k -ℤ elapsed k)) c.args.tolerance 21 0 far) (λ z. omega arith)
