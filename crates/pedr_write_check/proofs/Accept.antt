-- The fields and arrays that the writer accepts.
use Prim.Native.Nat.{◌≤◌}
use mathlib.Core.Path.{◌≡◌, refl, sym}
use mathlib.Core.Bool.{true}
use borrow.Author.Tests.{leb-true}
use Rattle.octets.specs.Table.{each}
use Rattle.octets.proofs.Ladder.{passed, pass, pass_le, then_zero, then_pass}
use Rattle.pedr_arrays.specs.declared.RecordArrays.{RecordArrays}
use Rattle.pedr_fields.specs.declared.RecordFields.{RecordFields}
use Rattle.pedr_check.specs.Refusal.{values_refusal}
use Rattle.pedr_codes.specs.Codes.{is_proper, has_two_bits}
use Rattle.pedr_write_check.specs.Refusal.{given_refusal}

-- the conditions that they meet
pub record Proper (f : RecordFields) (a : RecordArrays) : Type 0 where
  pub values : values_refusal f.time.micros f.position.latitude f.receiver.frame_index ≡ 0
  pub classes : each is_proper a.shots.class ≡ true
  pub good : f.quality.good ≤ 1048575
  pub quality_carried : f.quality.carried ≤ 15
  pub descriptor_carried : f.descriptor.carried ≤ 16777215
  pub encoders : each has_two_bits a.shots.encoder ≡ true

module _ (f : RecordFields) (a : RecordArrays) where
  -- what is not refused meets them
  pub given_proper : given_refusal f a ≡ 0 → Proper f a
  unfolding given_refusal
  given_proper e =
      let c0 = then_zero _ _ e in
      let c1 = passed _ 39 _ c0.1 in
      let c2 = passed _ 48 _ c1.1 in
      let c3 = passed _ 48 _ c2.1 in
      let c4 = passed _ 48 _ c3.1 in
      let c5 = passed _ 48 _ c4.1 in
      record {
        values = c0.0;
        classes = c1.0;
        good = leb-true _ _ c2.0;
        quality_carried = leb-true _ _ c3.0;
        descriptor_carried = leb-true _ _ c4.0;
        encoders = c5.0;
      }

  -- and what meets them is not refused
  pub proper_given : Proper f a → given_refusal f a ≡ 0
  unfolding given_refusal
  proper_given w =
      sym (then_pass _ _ 0 w.values
      (pass _ 40 _ _ w.classes
      (pass_le _ _ 49 _ _ w.good
      (pass_le _ _ 49 _ _ w.quality_carried
      (pass_le _ _ 49 _ _ w.descriptor_carried
      (pass _ 49 _ _ w.encoders refl))))))
