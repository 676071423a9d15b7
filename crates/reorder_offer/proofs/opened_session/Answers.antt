-- The ladder of refusals, the reader's answer, and what an accepted packet opens.
use mathlib.Core.Path.{◌≡◌, sym, ap}
use native.Mathlib.Omega.{arith}
use Rattle.octets.specs.Refusal.{answered}
use Rattle.octets.proofs.Ladder.{rungs, pass_within, pass_eq, fail_below, fail_above, say_refused, say_answered, answer_said}
use Rattle.packet_check.specs.Refusal.{read_refusal}
use Rattle.packet.specs.declared.PacketFields.{PacketFields}
use Rattle.packet.specs.Fields.{fields_of}
use Rattle.packet.specs.Read.{read_due}
use Rattle.reorder_admission.proofs.Handed.{handed_on}
use Rattle.reorder_offer.specs.Opening.{opened, open_refusal}
use Rattle.reorder_offer.proofs.opened_session.Goals as goal
use Rattle.reorder_offer.proofs.opened_session.Goals.{then-threshold-lt-LEAST_THRESHOLD-via-then-threshold-lt-LEAST_THRESHOLD, then-threshold-lt-LEAST_THRESHOLD-via-else-threshold-lt-LEAST_THRESHOLD+then-threshold-gt-MOST_THRESHOLD}

pub returns-then-threshold-lt-LEAST_THRESHOLD : goal.returns-then-threshold-lt-LEAST_THRESHOLD
unfolding open_refusal
returns-then-threshold-lt-LEAST_THRESHOLD c =
    let n : 20 ≡ open_refusal c.args.store_size c.args.packet.now c.args.threshold c.args.sum_word =
    elim c.then-threshold-lt-LEAST_THRESHOLD.branch [
      | then-threshold-lt-LEAST_THRESHOLD-via-then-threshold-lt-LEAST_THRESHOLD w ↦ fail_below _ _ _ 20 _ w.if-threshold-lt-LEAST_THRESHOLD.true
      | then-threshold-lt-LEAST_THRESHOLD-via-else-threshold-lt-LEAST_THRESHOLD+then-threshold-gt-MOST_THRESHOLD w ↦ fail_above _ _ _ 20 _ w.if-threshold-lt-LEAST_THRESHOLD.false w.if-threshold-gt-MOST_THRESHOLD.true
    ] in
    say_refused _ _ _ n (λ q. omega arith)

pub returns-then-store_size-ne-STORE_SIZE : goal.returns-then-store_size-ne-STORE_SIZE
unfolding open_refusal
returns-then-store_size-ne-STORE_SIZE c = say_refused _ _ _ (search rungs depth 10) (λ q. omega arith)

pub returns-in_default : goal.returns-in_default
unfolding open_refusal
returns-in_default c =
    let h = handed_on _ _ _ _ c.read_answer-read.ensures c.unwrap_err.ensures in
    say_refused _ _ _
    (pass_within 1 31 _ 20 _ _ c.if-threshold-lt-LEAST_THRESHOLD.false c.if-threshold-gt-MOST_THRESHOLD.false (pass_eq _ _ 27 _ _ c.if-store_size-ne-STORE_SIZE.false h.0))
    h.1

pub returns : goal.returns
unfolding open_refusal
returns c =
    let k = c.args in
    let b = k.packet.now in
    let q : answered c.in-Ok.fields ≡ read_due b k.sum_word = c.in-Ok.ensures in
    let r = answer_said (read_refusal b k.sum_word) (fields_of b) _ q in
    say_answered _ _ _
    (sym
    (pass_within 1 31 _ 20 _ 0 c.if-threshold-lt-LEAST_THRESHOLD.false c.if-threshold-gt-MOST_THRESHOLD.false
    (pass_eq _ _ 27 _ 0 c.if-store_size-ne-STORE_SIZE.false (sym r.0))))
    (simp (c.from.ensures, c.first.ensures) (ap (λ (f : PacketFields). opened f k.threshold k.sum_word) r.1))
