-- A list filled by a loop with the numbers of a run: one law over the width and the sign.
use Rattle.std.proofs.Common.{◌≡◌, ℕ, ◌+◌, ◌*◌, ◌<◌, ◌≤◌, List, length, take, drop, set, sym, ap, ap₂, ◌∙◌, arith, zero-add, add-one, mul-suc}
use lib.Seq.{get_or-drop, drop-drop}
use Rattle.octets.specs.Word.{WordLaws}
use Rattle.octets.proofs.Codec.{part_at}
use Rattle.octets.proofs.Fill.{Filled, fill_more, fill_done}

-- the number of item k
abbrev pub number_of : {W : Type 0} → (List ℕ → ℕ → W) → ℕ → List ℕ → ℕ → ℕ → W
number_of at w s i k = at s (i + w * k)

-- the loop's invariant: d is the list before the loop, a the list now, k the numbers stored
abbrev pub Reading : {W : Type 0} → (List ℕ → ℕ → W) → ℕ → List ℕ → ℕ → List W → List W → ℕ → Type 0
Reading at w s i d a k = Filled (number_of at w s i) d a k

module _ {W : Type 0} {w : ℕ} {at : List ℕ → ℕ → W} {run_at : List ℕ → ℕ → ℕ → List W} {octets : W → List ℕ} {run_octets : List W → List ℕ}
    (laws : WordLaws w at run_at octets run_octets) (s : List ℕ) where
  -- a number is read from its own bytes, and from the bytes from it on
  at_part : (j : ℕ) → at (take w (drop j s)) 0 ≡ at s j
  at_part j = laws.same (take w (drop j s)) s 0 j (λ k h. simp zero-add (part_at s j w k h))

  at_drop : (j : ℕ) → at (drop j s) 0 ≡ at s j
  at_drop j = laws.same (drop j s) s 0 j (λ k h. simp zero-add (get_or-drop j s k 0))

  module _ (i : ℕ) (d a : List W) (k : ℕ) where
    -- one number more
    more : (v : W) → k < length d → v ≡ number_of at w s i k → Reading at w s i d a k → Reading at w s i d (set a k v) (k + 1)
    more v h e inv = fill_more (number_of at w s i) d a k v h e inv

    pub more_within : (v : W) (j n : ℕ) → k < length d → v ≡ at (take n (drop j s)) 0 → j ≡ i + w * k → n ≡ w → Reading at w s i d a k
        → Reading at w s i d (set a k v) (k + 1)
    more_within v j n h e ej en inv =
        more v h (e ∙ ap₂ (λ (m o : ℕ). at (take m (drop o s)) 0) en ej ∙ at_part (i + w * k)) inv

    pub more_past : (v : W) (rest : List ℕ) → k < length d → v ≡ at rest 0 → rest ≡ drop (i + w * k) s → Reading at w s i d a k
        → Reading at w s i d (set a k v) (k + 1)
    more_past v rest h e er inv = more v h (e ∙ ap (λ (l : List ℕ). at l 0) er ∙ at_drop (i + w * k)) inv

    -- the bytes behind a number
    pub rest_more : (rest new : List ℕ) (n : ℕ) → rest ≡ drop (i + w * k) s → new ≡ drop n rest → n ≡ w → new ≡ drop (i + w * (k + 1)) s
    rest_more rest new n er e en =
        e ∙ ap₂ drop en er ∙ drop-drop w (i + w * k) s ∙ ap (λ (j : ℕ). drop j s) (omega (arith, add-one k, mul-suc w k))

    -- all of them
    pub all_read : length d ≤ k → Reading at w s i d a k → a ≡ run_at s i (length d)
    all_read h inv = fill_done (number_of at w s i) d a k h inv ∙ sym (laws.run s i (length d))
