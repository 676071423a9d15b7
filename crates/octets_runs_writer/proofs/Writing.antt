-- A list into which a loop stores the numbers of a run from index i on: one law over the width and the sign.
use Rattle.std.proofs.Common.{◌≡◌, ℕ, ◌+◌, ◌*◌, ◌<◌, ◌≤◌, min, List, [], ◌∷◌, ◌++◌, length, get_or, take, drop, sym, ap, ◌∙◌, arith, mul-zero, mul-suc, mul-le-mul_left, add-one, append-nil, append_assoc}
use native.Mathlib.Decide.{dec_le}
use lib.ListN.{length-append}
use lib.Seq.{take-suc, length-take-le}
use borrow.Rule.Slice.PartMut.{put_mid}
use Rattle.octets.specs.Bytes.{put}
use Rattle.octets.specs.Word.{WordLaws}
use Rattle.octets.proofs.Codec.{part_length}
use Rattle.octets.proofs.Store.{put_nothing, put_length, put_then, put_past, put_part, put_whole}

-- the loop's invariant: d is the list before the loop, out the list now, k the numbers stored
abbrev pub Writing : {W : Type 0} → (List W → List ℕ) → List W → ℕ → List ℕ → List ℕ → ℕ → Type 0
Writing run_octets xs i d out k = (k ≤ length xs) × (out ≡ put d i (run_octets (take k xs)))

-- an index past the end may be taken for the largest
put_largest : (s b : List ℕ) (i most : ℕ) → length s ≤ most → put s (min i most) b ≡ put s i b
put_largest s b i most h = go (dec_le i most)
  where
    go : Dec (i ≤ most) → put s (min i most) b ≡ put s i b
    go (yes l) = ap (λ (j : ℕ). put s j b) (omega arith)
    go (no l) = put_past b s (min i most) (omega arith) ∙ sym (put_past b s i (omega arith))

-- that index, one number more
pub next_index : (i w k most at n new : ℕ) → at ≡ min (i + w * k) most → n ≡ w → new ≡ min (at + n) most → new ≡ min (i + w * (k + 1)) most
next_index i w k most at n new ea en e = omega (arith, add-one k, mul-suc w k)

module _ {W : Type 0} {w : ℕ} {at : List ℕ → ℕ → W} {run_at : List ℕ → ℕ → ℕ → List W} {octets : W → List ℕ} {run_octets : List W → List ℕ}
    (laws : WordLaws w at run_at octets run_octets) where
  run_length : (xs : List W) → length (run_octets xs) ≡ w * length xs
  run_length [] = ap length laws.run_none ∙ sym (mul-zero w)
  run_length (x ∷ xs) =
      ap length (laws.run_more x xs) ∙ length-append (octets x) (run_octets xs)
      ∙ omega (arith, laws.octets_count x, run_length xs, mul-suc w (length xs))

  -- one number more
  run_snoc : (xs : List W) (x : W) → run_octets (xs ++ (x ∷ [])) ≡ run_octets xs ++ octets x
  run_snoc [] x =
      laws.run_more x [] ∙ ap (λ (l : List ℕ). octets x ++ l) laws.run_none ∙ append-nil (octets x) ∙ ap (λ (l : List ℕ). l ++ octets x) (sym laws.run_none)
  run_snoc (y ∷ xs) x =
      laws.run_more y (xs ++ (x ∷ [])) ∙ ap (λ (l : List ℕ). octets y ++ l) (run_snoc xs x) ∙ sym (append_assoc (octets y) (run_octets xs) (octets x))
      ∙ ap (λ (l : List ℕ). l ++ octets x) (sym (laws.run_more y xs))

  module _ (xs : List W) (i : ℕ) (d : List ℕ) where
    -- none yet
    pub none_stored : Writing run_octets xs i d d 0
    none_stored = (omega arith, sym (ap (put d i) laws.run_none ∙ put_nothing d i))

    module _ (out : List ℕ) (k : ℕ) (x : W) (h : k < length xs) (ex : x ≡ get_or xs k x) (inv : Writing run_octets xs i d out k) where
      more : (new : List ℕ) → new ≡ put out (i + w * k) (octets x) → Writing run_octets xs i d new (k + 1)
      more new e =
          let a : List ℕ = run_octets (take k xs) in
          let l : length a ≡ w * k = run_length (take k xs) ∙ ap (λ (j : ℕ). w * j) (length-take-le k xs (omega arith)) in
          let t : run_octets (take (k + 1) xs) ≡ a ++ octets x =
          ap (λ (j : ℕ). run_octets (take j xs)) (add-one k) ∙ ap run_octets (take-suc xs k x h ∙ ap (λ (y : W). take k xs ++ (y ∷ [])) (sym ex)) ∙ run_snoc (take k xs) x in (
            omega arith,
            e ∙ ap (λ (s : List ℕ). put s (i + w * k) (octets x)) inv.1 ∙ put_then a d (octets x) i (i + w * k) (ap (λ (j : ℕ). i + j) l) ∙ ap (put d i) (sym t),
          )

      pub more_within : (j n : ℕ) (b : List ℕ) → i + w * length xs ≤ length d → b ≡ put (take n (drop j out)) 0 (octets x) → j ≡ i + w * k → n ≡ w
          → Writing run_octets xs i d (put_mid j n out b) (k + 1)
      more_within j n b r eb ej en =
          let l : length out ≡ length d = ap length inv.1 ∙ put_length d i (run_octets (take k xs)) in
          let room : i + w * k + w ≤ length out = omega (arith, mul-suc w k, mul-le-mul_left w h) in
          let long : length (take n (drop j out)) ≡ w = part_length out j n (omega arith) ∙ en in
          let whole : b ≡ octets x = eb ∙ put_whole (take n (drop j out)) (octets x) (laws.octets_count x ∙ sym long) in
          more (put_mid j n out b)
          (ap (put_mid j n out) whole ∙ put_part out (octets x) j n (omega arith) (laws.octets_count x ∙ sym en) ∙ ap (λ (o : ℕ). put out o (octets x)) ej)

      pub more_past : (new : List ℕ) (from most : ℕ) → new ≡ put out from (octets x) → from ≡ min (i + w * k) most → length d ≤ most
          → Writing run_octets xs i d new (k + 1)
      more_past new from most e ef r =
          let l : length out ≡ length d = ap length inv.1 ∙ put_length d i (run_octets (take k xs)) in
          more new (e ∙ ap (λ (j : ℕ). put out j (octets x)) ef ∙ put_largest out (octets x) (i + w * k) most (omega arith))
