-- The rung of 40 is passed, and no other rung has this number.
use native.Mathlib.Omega.{arith}
use Rattle.pedr_check.specs.Refusal.{values_refusal}
use Rattle.pedr_codes.proofs.Proper.{classes_proper}
use Rattle.pedr_write_check.specs.Refusal.{given_refusal}
use Rattle.pedr_write_refusal.specs.Refusal.{write_refusal}
use Rattle.pedr_c.specs.Back.{shots_of_numbers, arrays_of_numbers}
use Rattle.mola_laws.specs.ClassRefusal.{NoClassRefused}
use Rattle.mola_laws.proofs.NeverSaid.{never, never_passed, never_then}
use Rattle.mola_laws.proofs.classes_not_refused.Goals as goal

none : NoClassRefused
unfolding write_refusal given_refusal values_refusal arrays_of_numbers shots_of_numbers
none f b n c x out =
    never_then _ _ _
    (never_then _ _ _ (never _ _ _ _ (λ e. omega arith) (never _ _ _ _ (λ e. omega arith) (never _ _ _ _ (λ e. omega arith) (λ e. omega arith))))
    (never_passed _ _ _ _ (classes_proper n.shots.class_number)
    (never _ _ _ _ (λ e. omega arith)
    (never _ _ _ _ (λ e. omega arith)
    (never _ _ _ _ (λ e. omega arith) (never _ _ _ _ (λ e. omega arith) (λ e. omega arith)))))))
    (never _ _ _ _ (λ e. omega arith)
    (never _ _ _ _ (λ e. omega arith)
    (never _ _ _ _ (λ e. omega arith) (never _ _ _ _ (λ e. omega arith) (λ e. omega arith)))))

pub returns : goal.returns
returns c = none
