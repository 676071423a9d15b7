-- Laws of the sum of words of bytes that are cut in two.
use Rattle.std.proofs.Common.{◌≡◌, ℕ, zero, suc, ◌+◌, ◌*◌, ◌%◌, ◌≤◌, min, List, [], ◌∷◌, length, take, drop, sym, ap, ◌∙◌, arith, drop_of_length-le, take_all}
use native.Mathlib.Decide.{dec_le}
use Rattle.checksum.specs.Sum.{word_sum}
use Rattle.checksum_laws.specs.Parts.{PartsAdd}

-- with every carry kept
cut_adds : (s : List ℕ) (cut : ℕ) → cut % 2 ≡ 0 → word_sum (take cut s) + word_sum (drop cut s) ≡ word_sum s
unfolding word_sum
cut_adds s zero e = omega arith
cut_adds s (suc zero) e = absurd (omega arith)
cut_adds [] (suc (suc cut)) e = omega arith
cut_adds (a ∷ []) (suc (suc cut)) e = omega arith
cut_adds (a ∷ b ∷ s) (suc (suc cut)) e = omega (arith, cut_adds s cut (omega arith))

-- with carries out of 16 bits dropped, before and after
pub parts_add : PartsAdd
parts_add s cut e = omega (arith, cut_adds s cut e)

-- a cut past the end is one at the end
pub cut_end : (s : List ℕ) (word w cut : ℕ) → w ≡ min word (length s) → cut ≡ min (w * 2) (length s)
    → (take cut s ≡ take (word * 2) s) × (drop cut s ≡ drop (word * 2) s)
cut_end s word w cut ew ec = go (dec_le (word * 2) (length s))
  where
    go : Dec (word * 2 ≤ length s) → (take cut s ≡ take (word * 2) s) × (drop cut s ≡ drop (word * 2) s)
    go (yes h) =
        let e : cut ≡ word * 2 = omega arith in
        (ap (λ (k : ℕ). take k s) e, ap (λ (k : ℕ). drop k s) e)
    go (no h) =
        let l : length s ≤ cut = omega arith in
        let m : length s ≤ word * 2 = omega arith in
        (take_all cut s l ∙ sym (take_all (word * 2) s m), drop_of_length-le s {i = cut} l ∙ sym (drop_of_length-le s {i = word * 2} m))
