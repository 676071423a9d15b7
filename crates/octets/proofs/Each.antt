-- A test of each element of a list, made by a loop from the front.
use Prim.Native.Nat.{ℕ, zero, suc, ◌+◌, ◌<◌, ◌≤◌}
use mathlib.Core.Path.{◌≡◌, refl, sym, ap, ap₂, ◌∙◌}
use mathlib.Core.Bool.{Bool, true, false, ◌&&◌, false≢true}
use mathlib.Core.List.{List, [], ◌∷◌, ◌++◌}
use native.Mathlib.Numerals.{add-one}
use native.Mathlib.Nat.{not-suc-le-zero, le_of_suc-le-suc}
use native.Mathlib.Omega.{arith}
use lib.ListN.{length, get_or, take}
use lib.Seq.{take-suc, take_all}
use Rattle.octets.specs.Table.{table, each}

and_true : (a : Bool) → (a && true) ≡ a
and_true true = refl
and_true false = refl

and_assoc : (a b c : Bool) → ((a && b) && c) ≡ (a && (b && c))
and_assoc true b c = refl
and_assoc false b c = refl

and_both : (a b : Bool) → (a && b) ≡ true → (a ≡ true) × (b ≡ true)
and_both true b e = (refl, e)
and_both false b e = absurd (false≢true e)

module _ {A : Type 0} (p : A → Bool) where
  -- one element more
  each_snoc : (xs : List A) (x : A) → each p (xs ++ (x ∷ [])) ≡ (each p xs && p x)
  unfolding each
  each_snoc [] x = and_true (p x)
  each_snoc (y ∷ xs) x = ap (λ (b : Bool). p y && b) (each_snoc xs x) ∙ sym (and_assoc (p y) (each p xs) (p x))

  -- the loop's invariant: r is the test of the first k elements
  abbrev pub Tested : List A → Bool → ℕ → Type 0
  Tested xs r k = (k ≤ length xs) × (r ≡ each p (take k xs))

  pub tested_none : (xs : List A) → Tested xs true 0
  unfolding each
  tested_none xs = (omega arith, refl)

  pub tested_more : (xs : List A) (r : Bool) (k : ℕ) (d : A) (v : Bool) → k < length xs → v ≡ p (get_or xs k d) → Tested xs r k → Tested xs (r && v) (k + 1)
  tested_more xs r k d v h e inv = (
    omega arith,
    ap₂ (λ (a b : Bool). a && b) inv.1 e ∙ sym (each_snoc (take k xs) (get_or xs k d))
        ∙ ap (each p) (sym (take-suc xs k d h)) ∙ ap (λ (n : ℕ). each p (take n xs)) (sym (add-one k)),
  )

  pub tested_all : (xs : List A) (r : Bool) (k : ℕ) → length xs ≤ k → Tested xs r k → r ≡ each p xs
  tested_all xs r k h inv = inv.1 ∙ ap (each p) (take_all k xs h)

  -- what holds of each holds of the one at an index
  pub each_at : (xs : List A) (k : ℕ) (d : A) → each p xs ≡ true → k < length xs → p (get_or xs k d) ≡ true
  unfolding each
  each_at [] k d e h = absurd (not-suc-le-zero h)
  each_at (x ∷ xs) zero d e h = (and_both (p x) (each p xs) e).0
  each_at (x ∷ xs) (suc k) d e h = each_at xs k d (and_both (p x) (each p xs) e).1 (le_of_suc-le-suc h)

  -- and the other way round
  pub each_all : (xs : List A) (d : A) → ((k : ℕ) → k < length xs → p (get_or xs k d) ≡ true) → each p xs ≡ true
  unfolding each
  each_all [] d f = refl
  each_all (x ∷ xs) d f = ap₂ (λ (a b : Bool). a && b) (f 0 (omega arith)) (each_all xs d (λ k h. f (suc k) (omega arith)))

  -- of a table
  pub each_table : (n : ℕ) (f : ℕ → A) → ((k : ℕ) → p (f k) ≡ true) → each p (table n f) ≡ true
  unfolding each
  each_table zero f h = refl
  each_table (suc n) f h = ap₂ (λ (a b : Bool). a && b) (h 0) (each_table n (λ k. f (suc k)) (λ k. h (suc k)))
