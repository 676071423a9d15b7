-- An array each of whose elements is a default is that many copies of it.
use Prim.Native.Nat.{ℕ, zero, suc, ◌<◌}
use mathlib.Core.Path.{◌≡◌, refl}
use mathlib.Core.List.{List, [], ◌∷◌}
use native.Mathlib.Omega.{arith}
use Rattle.std.specs.Prelude.{length, replicate, slice_index_or}
use Rattle.std.specs.Array.{AllOfLen}

copies : {A : Type 0} (P : A → Type 0) (a : A) → ((x : A) → P x → x ≡ a) → (n : ℕ) (xs : List A) → length xs ≡ n
    → ((i : ℕ) (d : A) → i < n → P (slice_index_or xs i d)) → xs ≡ replicate n a
copies P a f zero [] l h = refl
copies P a f zero (x ∷ xs) l h = absurd (omega (arith, l))
copies P a f (suc n) [] l h = absurd (omega (arith, l))
copies P a f (suc n) (x ∷ xs) l h = λ i. f x (h 0 a (omega arith)) i ∷ copies P a f n xs (omega (arith, l)) (λ j d lt. h (suc j) d (omega (arith, lt))) i

pub all_copies : {A : Type 0} (P : A → Type 0) (a : A) → ((x : A) → P x → x ≡ a) → (n : ℕ) (xs : List A) → AllOfLen P xs n → xs ≡ replicate n a
all_copies P a f n xs h = copies P a f n xs h.long h.at
