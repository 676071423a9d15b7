-- A list given by a rule for each index.
use Rattle.std.specs.Prelude.{ℕ, zero, suc, ◌+◌, ◌*◌, Bool, true, ◌&&◌, List, [], ◌∷◌, ◌++◌, ℤ, get_or}
use Rattle.octets.specs.Bytes.{nat_at, int_at, octets_of}

-- f 0, f 1, .., f (n - 1)
abbrev pub table : {A : Type 0} → ℕ → (ℕ → A) → List A
table zero f = []
table (suc n) f = f 0 ∷ table n (λ k. f (suc k))

-- p holds of each element
unfoldable pub each : {A : Type 0} → (A → Bool) → List A → Bool
each p [] = true
each p (x ∷ xs) = p x && each p xs

-- the n bytes of s from index i on, a byte past the end being 0
unfoldable pub octets_at : List ℕ → ℕ → ℕ → List ℕ
octets_at s i n = table n (λ k. get_or s (i + k) 0)

-- the n numbers of w bytes each in s from index i on, unsigned and signed
unfoldable pub nats_at : List ℕ → ℕ → ℕ → ℕ → List ℕ
nats_at s i w n = table n (λ k. nat_at s (i + w * k) w)

unfoldable pub ints_at : List ℕ → ℕ → ℕ → ℕ → List ℤ
ints_at s i w n = table n (λ k. int_at s (i + w * k) w)

-- the bytes of each number, w bytes each, one number after the other
unfoldable pub octets_of_all : ℕ → List ℕ → List ℕ
octets_of_all w [] = []
octets_of_all w (x ∷ xs) = octets_of w x ++ octets_of_all w xs
