-- Each return is one rung of the ladder.
use mathlib.Core.Path.{◌≡◌, sym, refl, ◌∙◌}
use Rattle.octets.proofs.Ladder.{pass_eq, fail_eq, then_pass}
use Rattle.refusal.specs.Number.{number}
use Rattle.refusal.proofs.Said.{then_handed_on}
use Rattle.pedr_write_check.specs.Refusal.{given_refusal}
use Rattle.pedr_write_refusal.specs.Refusal.{write_refusal}
use Rattle.pedr_write_refusal.proofs.check_write.Goals as goal

pub returns-in_err-check_given : goal.returns-in_err-check_given
unfolding write_refusal
returns-in_err-check_given c =
    let g = c.args.given.now in
    let q : number c.in_err-check_given.field-0.0 ≡ given_refusal g.fields.now g.arrays.now = c.in_err-check_given.ensures in
    then_handed_on _ _ _ _ c.from_residual.ensures q

pub returns-then-given-carried_count : goal.returns-then-given-carried_count
unfolding write_refusal
returns-then-given-carried_count c =
    then_pass _ _ _ (sym c.in_ok-check_given.ensures)
    (fail_eq _ _ 49 _ (λ z. c.if-given-carried_count.true (z ∙ sym c.carried_count.ensures)))

pub returns-then-given-ne-UNINTERPRETED : goal.returns-then-given-ne-UNINTERPRETED
unfolding write_refusal
returns-then-given-ne-UNINTERPRETED c =
    then_pass _ _ _ (sym c.in_ok-check_given.ensures)
    (pass_eq _ _ 49 _ _ (c.if-given-carried_count.false ∙ c.carried_count.ensures)
    (fail_eq _ _ 49 _ c.if-given-ne-UNINTERPRETED.true))

pub returns-then-out-ne-RECORD_SIZE : goal.returns-then-out-ne-RECORD_SIZE
unfolding write_refusal
returns-then-out-ne-RECORD_SIZE c =
    then_pass _ _ _ (sym c.in_ok-check_given.ensures)
    (pass_eq _ _ 49 _ _ (c.if-given-carried_count.false ∙ c.carried_count.ensures)
    (pass_eq _ _ 49 _ _ c.if-given-ne-UNINTERPRETED.false
    (fail_eq _ _ 41 _ c.if-out-ne-RECORD_SIZE.true)))

pub returns-then-frame_number-given : goal.returns-then-frame_number-given
unfolding write_refusal
returns-then-frame_number-given c =
    then_pass _ _ _ (sym c.in_ok-check_given.ensures)
    (pass_eq _ _ 49 _ _ (c.if-given-carried_count.false ∙ c.carried_count.ensures)
    (pass_eq _ _ 49 _ _ c.if-given-ne-UNINTERPRETED.false
    (pass_eq _ _ 41 _ _ c.if-out-ne-RECORD_SIZE.false
    (fail_eq _ _ 42 _ (λ z. c.if-frame_number-given.true (c.frame_number.ensures ∙ z))))))

pub returns : goal.returns
unfolding write_refusal
returns c =
    then_pass _ _ _ (sym c.in_ok-check_given.ensures)
    (pass_eq _ _ 49 _ _ (c.if-given-carried_count.false ∙ c.carried_count.ensures)
    (pass_eq _ _ 49 _ _ c.if-given-ne-UNINTERPRETED.false
    (pass_eq _ _ 41 _ _ c.if-out-ne-RECORD_SIZE.false
    (pass_eq _ _ 42 _ _ (sym c.frame_number.ensures ∙ c.if-frame_number-given.false) refl))))
