-- The rungs of the ladder.
use mathlib.Core.Path.{refl, sym, ap}
use mathlib.Core.Bool.{not}
use native.Mathlib.Omega.{arith}
use borrow.Author.Tests.{eq-eqb, ne_eqb}
use Rattle.octets.proofs.Ladder.{pass, fail, then_pass, then_fail, say_refused, say_answered}
use Rattle.reorder_rules.specs.Pass.{pass_refusal}
use Rattle.reorder_session.proofs.Whole.{fit, unfit}
use Rattle.reorder_pass.proofs.passed_position.Goals as goal

pub returns-then-is_broken : goal.returns-then-is_broken
unfolding pass_refusal
returns-then-is_broken c = say_refused _ _ _ (then_fail _ _ 30 (unfit _ (sym c.if-is_broken.ensures)) (λ q. omega arith)) (λ q. omega arith)

pub returns-then-session-eq-END_POSITION : goal.returns-then-session-eq-END_POSITION
unfolding pass_refusal
returns-then-session-eq-END_POSITION c =
    say_refused _ _ _ (then_pass _ _ 28 (fit _ (sym c.if-is_broken.ensures)) (fail _ 28 _ (ap not (eq-eqb _ _ c.if-session-eq-END_POSITION.true)))) (λ q. omega arith)

pub returns-then-is_start_held : goal.returns-then-is_start_held
unfolding pass_refusal
returns-then-is_start_held c =
    say_refused _ _ _
    (then_pass _ _ 26 (fit _ (sym c.if-is_broken.ensures))
    (pass _ 28 _ 26 (ap not (ne_eqb _ _ c.if-session-eq-END_POSITION.false)) (fail _ 26 _ (ap not (sym c.if-is_start_held.ensures)))))
    (λ q. omega arith)

pub returns : goal.returns
unfolding pass_refusal
returns c =
    say_answered _ _ _
    (sym
    (then_pass _ _ 0 (fit _ (sym c.if-is_broken.ensures))
    (pass _ 28 _ 0 (ap not (ne_eqb _ _ c.if-session-eq-END_POSITION.false)) (pass _ 26 _ 0 (ap not (sym c.if-is_start_held.ensures)) refl))))
    refl
