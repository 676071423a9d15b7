-- What holds where an offer takes the packet.
use Prim.Native.Nat.{ℕ, ◌+◌, ◌≤◌}
use mathlib.Core.Path.{◌≡◌, refl, sym, ap, ◌∙◌, subst}
use mathlib.Core.Bool.{Bool, true, false}
use mathlib.Core.List.{List}
use borrow.Author.Tests.{eqb-true, not-true}
use lib.IntN.{ℤ, pos, negsuc, nat_abs}
use lib.Signed.{le_z}
use Rattle.numbers.proofs.Integers.{ints}
use Rattle.octets.specs.Refusal.{Said, refused, answered}
use Rattle.octets.proofs.Ladder.{passed, then_zero, answer_said}
use Rattle.packet_check.specs.Refusal.{read_refusal}
use Rattle.packet.specs.Fields.{fields_of}
use Rattle.reorder_rules.specs.Buffer.{Buffer}
use Rattle.reorder_rules.specs.Offer.{position_refusal, admitted, position_of, offer_refusal, offer_due}
use Rattle.reorder_rules.proofs.Said.{refusing_none}

-- ---- a position that is admitted

pub record Admitted (start : ℕ) (held : ℕ → Bool) (y : Said ℤ) (p : ℕ) : Type 0 where
  pub at : y ≡ answered (pos p)
  pub most : p ≤ 999999
  pub least : start ≤ p
  pub free : held p ≡ false
  pub near : p ≤ start + 31

number_of : (n : ℕ) (z : ℤ) → le_z (pos n) z ≡ true → z ≡ pos (nat_abs z)
number_of n (pos m) e = refl
number_of n (negsuc m) e = absurd (omega ints)

pub admitted_at : (start : ℕ) (held : ℕ → Bool) (y : Said ℤ) (p : ℕ) → admitted start held y ≡ answered p → Admitted start held y p
unfolding admitted position_refusal
admitted_at start held (refused n) p e = absurd cc
admitted_at start held (answered z) p e =
    let a = answer_said (position_refusal start held z) (nat_abs z) p (sym e) in
    let c1 = passed _ 21 _ a.0 in
    let c2 = passed _ 22 _ c1.1 in
    let c3 = passed _ 23 _ c2.1 in
    let c4 = passed _ 24 _ c3.1 in
    let n : z ≡ pos (nat_abs z) = number_of start z c2.0 in
    let i : z ≡ pos p = n ∙ ap pos (sym a.1) in
    let top : le_z (pos p) (pos 999999) ≡ true = subst (λ (x : ℤ). le_z x (pos 999999) ≡ true) i c1.0 in
    let low : le_z (pos start) (pos p) ≡ true = subst (λ (x : ℤ). le_z (pos start) x ≡ true) i c2.0 in
    let high : le_z (pos p) (pos (start + 31)) ≡ true = subst (λ (x : ℤ). le_z x (pos (start + 31)) ≡ true) i c4.0 in
    record {
      at = ap answered i;
      most = omega ints;
      least = omega ints;
      free = ap held a.1 ∙ not-true (held (nat_abs z)) c3.0;
      near = omega ints;
    }

-- ---- an offer that is taken

module _ {S : Type 0} (B : Buffer S) where
  pub record Taken (s : S) (size : ℕ) (b : List ℕ) (p : ℕ) : Type 0 where
    pub fit : B.unfit s ≡ 0
    pub store : size ≡ 34560
    pub read : read_refusal b (B.word s) ≡ 0
    pub position : Admitted (B.start s) (B.held s) (position_of B s (fields_of b)) p

  pub taken_offer : (s : S) (size : ℕ) (b : List ℕ) (p : ℕ) → offer_due B s size b ≡ answered p → Taken s size b p
  unfolding offer_refusal offer_due
  taken_offer s size b p e =
      let r = refusing_none _ _ p e in
      let c1 = then_zero _ _ r.0 in
      let c2 = passed _ 26 _ c1.1 in
      record {
        fit = c1.0;
        store = eqb-true _ _ c2.0;
        read = c2.1;
        position = admitted_at (B.start s) (B.held s) _ p r.1;
      }
