-- The choice of one of seven by the frame index.
use Prim.Native.Nat.{ℕ, zero, suc, ◌≤◌}
use mathlib.Core.Path.{◌≡◌, refl, ap}
use borrow.Author.Tests.{ne_eqb}
use native.Mathlib.Omega.{arith}
use lib.Dec.{eqb}
use mathlib.Core.Bool.{Bool, true, false, cond}
use Rattle.pedr_layout.specs.Block.{by_frame}

module _ {A : Type 0} (n : ℕ) (a b c d e f g : A) where
  pub at_1 : n ≡ 1 → by_frame n a b c d e f g ≡ a
  at_1 q = ap (λ (k : ℕ). by_frame k a b c d e f g) q

  pub at_2 : n ≡ 2 → by_frame n a b c d e f g ≡ b
  at_2 q = ap (λ (k : ℕ). by_frame k a b c d e f g) q

  pub at_3 : n ≡ 3 → by_frame n a b c d e f g ≡ c
  at_3 q = ap (λ (k : ℕ). by_frame k a b c d e f g) q

  pub at_4 : n ≡ 4 → by_frame n a b c d e f g ≡ d
  at_4 q = ap (λ (k : ℕ). by_frame k a b c d e f g) q

  pub at_5 : n ≡ 5 → by_frame n a b c d e f g ≡ e
  at_5 q = ap (λ (k : ℕ). by_frame k a b c d e f g) q

  pub at_6 : n ≡ 6 → by_frame n a b c d e f g ≡ f
  at_6 q = ap (λ (k : ℕ). by_frame k a b c d e f g) q

  pub at_7 : n ≡ 7 → by_frame n a b c d e f g ≡ g
  at_7 q = ap (λ (k : ℕ). by_frame k a b c d e f g) q

  -- an index that is none of 1 to 6
  pub at_rest : (n ≡ 1 → ⊥) → (n ≡ 2 → ⊥) → (n ≡ 3 → ⊥) → (n ≡ 4 → ⊥) → (n ≡ 5 → ⊥) → (n ≡ 6 → ⊥) → by_frame n a b c d e f g ≡ g
  at_rest n1 n2 n3 n4 n5 n6 = simp (ne_eqb n 1 n1, ne_eqb n 2 n2, ne_eqb n 3 n3, ne_eqb n 4 n4, ne_eqb n 5 n5, ne_eqb n 6 n6)

-- where frames 1, 2 and 7 have the same, an index that is none of 3 to 6
pub at_others : {A : Type 0} (n : ℕ) (x c d e f : A) → (n ≡ 3 → ⊥) → (n ≡ 4 → ⊥) → (n ≡ 5 → ⊥) → (n ≡ 6 → ⊥) → by_frame n x x c d e f x ≡ x
at_others n x c d e f n3 n4 n5 n6 = simp (ne_eqb n 3 n3, ne_eqb n 4 n4, ne_eqb n 5 n5, ne_eqb n 6 n6) (go (eqb n 1) (eqb n 2))
  where
    go : (p q : Bool) → cond p x (cond q x x) ≡ x
    go true q = refl
    go false true = refl
    go false false = refl

-- what holds of each index from 1 to 7 holds of one between them
pub each_frame : (P : ℕ → Type 0) (n : ℕ) → 1 ≤ n → n ≤ 7 → P 1 → P 2 → P 3 → P 4 → P 5 → P 6 → P 7 → P n
each_frame P zero l h p1 p2 p3 p4 p5 p6 p7 = absurd (omega arith)
each_frame P (suc zero) l h p1 p2 p3 p4 p5 p6 p7 = p1
each_frame P (suc (suc zero)) l h p1 p2 p3 p4 p5 p6 p7 = p2
each_frame P (suc (suc (suc zero))) l h p1 p2 p3 p4 p5 p6 p7 = p3
each_frame P (suc (suc (suc (suc zero)))) l h p1 p2 p3 p4 p5 p6 p7 = p4
each_frame P (suc (suc (suc (suc (suc zero))))) l h p1 p2 p3 p4 p5 p6 p7 = p5
each_frame P (suc (suc (suc (suc (suc (suc zero)))))) l h p1 p2 p3 p4 p5 p6 p7 = p6
each_frame P (suc (suc (suc (suc (suc (suc (suc zero))))))) l h p1 p2 p3 p4 p5 p6 p7 = p7
each_frame P (suc (suc (suc (suc (suc (suc (suc (suc n)))))))) l h p1 p2 p3 p4 p5 p6 p7 = absurd (omega arith)
