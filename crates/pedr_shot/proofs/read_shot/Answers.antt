-- What is said, by the record's number, and where that is 0 by the answer of the flags.
use Prim.Native.Nat.{ℕ, ◌≤◌}
use mathlib.Core.Path.{◌≡◌, sym}
use mathlib.Core.List.{List}
use Rattle.octets.specs.Refusal.{within, refused, answered}
use Rattle.octets.proofs.Ladder.{then_fail, then_pass, passed, within_true, say_answered, answer_said, refusal_said}
use Rattle.refusal.specs.Number.{number}
use Rattle.refusal.proofs.Said.{say_handed_on, number_not_0}
use Rattle.pedr_flags.specs.declared.ShotFlags.{ShotFlags}
use Rattle.pedr_flags.specs.Shot.{flags_of, flags_refusal, flags_due}
use Rattle.pedr_check.specs.Refusal.{record_refusal}
use Rattle.pedr_shot.specs.Shot.{shot_of, shot_refusal}
use Rattle.pedr_shot.proofs.read_shot.Goals as goal

-- flags are answered for a shot that is 1 to 20
there_is : (s : List ℕ) (k : ℕ) (f : ShotFlags) → answered f ≡ flags_due s k → (1 ≤ k) × (k ≤ 20) × (f ≡ flags_of s k)
there_is s k f e =
    let q = answer_said (flags_refusal k) (flags_of s k) f e in
    let w = within_true 1 20 k (passed (within 1 20 k) 15 0 q.0).0 in
    (w.0, w.1, q.1)

pub returns-in_err-check_record : goal.returns-in_err-check_record
unfolding shot_refusal
returns-in_err-check_record c =
    let s = c.args.bytes.now in
    let k = c.args.shot in
    let refusal = c.in_err-check_record.field-0.0 in
    let e : number refusal ≡ record_refusal s = c.in_err-check_record.ensures in
    say_handed_on c.from_residual.result refusal _ (shot_of s k) c.from_residual.ensures (then_fail _ _ _ e (number_not_0 refusal))

pub returns-in_err-flags : goal.returns-in_err-flags
unfolding shot_refusal
returns-in_err-flags c =
    let s = c.args.bytes.now in
    let k = c.args.shot in
    let refusal = c.in_err-flags.field-0.0 in
    let e : refused (number refusal) ≡ flags_due s k = c.in_err-flags.ensures in
    let q = refusal_said _ _ (flags_of s k) e in
    say_handed_on c.from_residual-in_err-flags.result refusal _ (shot_of s k) c.from_residual-in_err-flags.ensures (then_pass (record_refusal s) _ _ (sym c.in_ok-check_record.ensures) q.0)

pub read_fields-requires : goal.read_fields-requires
read_fields-requires c = there_is _ _ _ c.in_ok-flags.ensures

pub returns : goal.returns
unfolding shot_refusal
returns c =
    let s = c.args.bytes.now in
    let k = c.args.shot in
    let z : record_refusal s ≡ 0 = sym c.in_ok-check_record.ensures in
    let e : answered c.in_ok-flags.flags ≡ flags_due s k = c.in_ok-flags.ensures in
    let q = answer_said _ (flags_of s k) _ e in
    say_answered _ (shot_of s k) _ (sym (then_pass _ _ 0 z (sym q.0))) c.read_fields.ensures
