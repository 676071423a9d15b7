-- Each return is one rung of the ladder.
use mathlib.Core.Path.{◌≡◌, sym, ◌∙◌}
use mathlib.Core.Bool.{true}
use Prim.Native.Nat.{ℕ, ◌<◌, ◌≤◌}
use native.Mathlib.Omega.{arith}
use mir.Syntax.{w32}
use mir.Val.{SFits, to_z, of_z}
use mir.ValLaws.{to_z-of_z}
use borrow.Author.Rules.{rules}
use Rattle.octets.specs.Table.{each}
use Rattle.octets.proofs.Ladder.{pass, fail, rungs}
use Rattle.refusal.specs.Number.{number}
use Rattle.refusal.proofs.Said.{then_handed_on}
use Rattle.pedr_fields.specs.declared.RecordFields.{RecordFields}
use Rattle.pedr_check.specs.Refusal.{values_refusal}
use Rattle.pedr_codes.specs.Codes.{is_proper, has_two_bits}
use Rattle.pedr_write_check.specs.Refusal.{given_refusal}
use Rattle.pedr_write_check.proofs.check_given.Goals as goal
use Rattle.pedr_write_check.proofs.check_given.Goals.{then-fields-via-then-fields, then-fields-via-else-fields+then-fields-2, then-fields-via-else-fields+else-fields-2+then-fields-3, then-fields-via-else-fields+else-fields-2+else-fields-3+then-not-have_two_bits}

-- the values' own ladder, where the two signed fields fit
values : (f : RecordFields) (n : ℕ) → SFits w32 f.time.micros → SFits w32 f.position.latitude
    → n ≡ values_refusal (to_z w32 (of_z w32 f.time.micros)) (to_z w32 (of_z w32 f.position.latitude)) f.receiver.frame_index
    → n ≡ values_refusal f.time.micros f.position.latitude f.receiver.frame_index
values f n m l e = e ∙ (λ i. values_refusal (to_z-of_z w32 _ m i) (to_z-of_z w32 _ l i) f.receiver.frame_index)

pub returns-in_err-check_values : goal.returns-in_err-check_values
unfolding given_refusal
returns-in_err-check_values c =
    let f = c.args.fields.now in
    let v : number c.in_err-check_values.field-0.0 ≡ values_refusal f.time.micros f.position.latitude f.receiver.frame_index =
    values f _ (search rules) (search rules) c.in_err-check_values.ensures in
    then_handed_on _ _ _ _ c.from_residual.ensures v

pub returns-then-not-are_proper : goal.returns-then-not-are_proper
unfolding given_refusal
returns-then-not-are_proper c =
    let v = sym (values c.args.fields.now 0 (search rules) (search rules) c.in_ok-check_values.ensures) in
    let n = sym c.are_proper.ensures ∙ c.if-not-are_proper.true in
    search (fail, rungs) depth 15

pub returns-then-fields : goal.returns-then-fields
unfolding given_refusal
returns-then-fields c =
    let v = sym (values c.args.fields.now 0 (search rules) (search rules) c.in_ok-check_values.ensures) in
    let p : each is_proper c.args.arrays.now.shots.class ≡ true = sym c.are_proper.ensures ∙ c.if-not-are_proper.false in
    let f = c.args.fields.now in
    elim c.then-fields.branch [
      | then-fields-via-then-fields w ↦
          let g : 1048575 < f.quality.good = omega arith in search (pass, rungs) depth 15
      | then-fields-via-else-fields+then-fields-2 w ↦
          let g : f.quality.good ≤ 1048575 = omega arith in
          let q : 15 < f.quality.carried = omega arith in search (pass, rungs) depth 15
      | then-fields-via-else-fields+else-fields-2+then-fields-3 w ↦
          let g : f.quality.good ≤ 1048575 = omega arith in
          let q : f.quality.carried ≤ 15 = omega arith in
          let d : 16777215 < f.descriptor.carried = omega arith in search (pass, rungs) depth 15
      | then-fields-via-else-fields+else-fields-2+else-fields-3+then-not-have_two_bits w ↦
          let g : f.quality.good ≤ 1048575 = omega arith in
          let q : f.quality.carried ≤ 15 = omega arith in
          let d : f.descriptor.carried ≤ 16777215 = omega arith in
          let n = sym w.have_two_bits.ensures ∙ w.if-not-have_two_bits.true in search (pass, fail, rungs) depth 15
    ]

pub returns : goal.returns
unfolding given_refusal
returns c =
    let v = sym (values c.args.fields.now 0 (search rules) (search rules) c.in_ok-check_values.ensures) in
    let p : each is_proper c.args.arrays.now.shots.class ≡ true = sym c.are_proper.ensures ∙ c.if-not-are_proper.false in
    let f = c.args.fields.now in
    let g : f.quality.good ≤ 1048575 = omega arith in
    let q : f.quality.carried ≤ 15 = omega arith in
    let d : f.descriptor.carried ≤ 16777215 = omega arith in
    let t : each has_two_bits c.args.arrays.now.shots.encoder ≡ true = sym c.have_two_bits.ensures ∙ c.if-not-have_two_bits.false in
    search (pass, rungs) depth 15
