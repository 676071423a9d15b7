-- An offer of an accepted packet whose position is free and not below next: within the window it is taken, beyond it is too far ahead.
use Prim.Native.Nat.{ℕ, ◌+◌, ◌≤◌, ◌<◌}
use mathlib.Core.Path.{◌≡◌, sym, ap, ◌∙◌}
use mathlib.Core.Bool.{false}
use mathlib.Core.List.{List}
use mathlib.Core.Logic.{◌⊎◌, inl, inr}
use native.Mathlib.Decide.{dec_lt}
use native.Mathlib.Omega.{arith}
use lib.IntN.{pos}
use lib.Signed.{lt_z}
use Rattle.numbers.proofs.Integers.{ints}
use Rattle.octets.specs.Refusal.{Said, refused, answered}
use Rattle.octets.proofs.Ladder.{then_pass, pass_eq}
use Rattle.packet_check.specs.Refusal.{read_refusal}
use Rattle.packet.specs.Fields.{fields_of}
use Rattle.reorder_rules.specs.Buffer.{Buffer}
use Rattle.reorder_rules.specs.Offer.{admitted, position_of, offer_refusal, offer_due}
use Rattle.reorder_rules.proofs.Said.{refusing_next}
use Rattle.reorder_rules.proofs.Admitting.{ahead, fits}

module _ {S : Type 0} (B : Buffer S) (s : S) (size : ℕ) (b : List ℕ) (p : ℕ)
    (fit : B.unfit s ≡ 0) (store : size ≡ 34560) (read : read_refusal b (B.word s) ≡ 0)
    (at : position_of B s (fields_of b) ≡ answered (pos p)) (least : B.start s ≤ p) (most : p ≤ 999999) (free : B.held s p ≡ false) where
  accepted : offer_refusal B s size b ≡ 0
  unfolding offer_refusal
  accepted = sym (then_pass _ _ 0 fit (pass_eq size 34560 27 _ 0 store (sym read)))

  says : (y : Said ℕ) → y ≡ admitted (B.start s) (B.held s) (answered (pos p)) → offer_due B s size b ≡ y
  unfolding offer_due
  says y q = sym (refusing_next _ _ y accepted (q ∙ sym (ap (admitted (B.start s) (B.held s)) at)))

  top : lt_z (pos 999999) (pos p) ≡ false
  top = omega ints

  low : lt_z (pos p) (pos (B.start s)) ≡ false
  low = omega ints

  pub offered_near : p ≤ B.start s + 31 → offer_due B s size b ≡ answered p
  offered_near h = says (answered p) (fits (B.start s) (B.held s) (pos p) top low free (omega arith))

  pub offered_far : B.start s + 31 < p → offer_due B s size b ≡ refused 25
  offered_far h = says (refused 25) (ahead (B.start s) (B.held s) (pos p) top low free (omega arith))

  pub offered_free : (offer_due B s size b ≡ answered p) ⊎ (offer_due B s size b ≡ refused 25)
  offered_free = go (dec_lt (B.start s + 31) p)
    where
      go : Dec (B.start s + 31 < p) → (offer_due B s size b ≡ answered p) ⊎ (offer_due B s size b ≡ refused 25)
      go (yes l) = inr (offered_far l)
      go (no m) = inl (offered_near (omega arith))
