-- Laws of the sum of words: bytes added in pairs that lie across two words, and one word taken as zero.
use Rattle.std.proofs.Common.{◌≡◌, ℕ, zero, suc, ◌+◌, ◌-◌, ◌*◌, ◌%◌, ◌<◌, ◌≤◌, List, [], ◌∷◌, ◌++◌, length, get_or, drop, sym, refl, ap, ◌∙◌, add-one, arith}
use Rattle.octets.specs.Bytes.{put}
use Rattle.octets.proofs.Store.{put_past}
use Rattle.checksum.specs.Sum.{word_sum, word_at, zeroed, packet_sum}

-- the words of bytes of which the first is the lower half of one
unfoldable pub low_sum : List ℕ → ℕ
low_sum [] = 0
low_sum (b ∷ s) = b + word_sum s

high_first : (a : ℕ) (s : List ℕ) → word_sum (a ∷ s) ≡ a * 256 + low_sum s
unfolding word_sum low_sum
high_first a [] = omega arith
high_first a (b ∷ s) = omega arith

-- no byte
pub sum_none : (s : List ℕ) → length s ≡ 0 → 0 ≡ word_sum s % 65536
unfolding word_sum
sum_none [] h = refl
sum_none (a ∷ s) h = absurd (omega arith)

-- the first byte, and the rest
pub sum_first : (s r : List ℕ) (a n : ℕ) → s ≡ a ∷ r → n ≡ a → (n * 256 + low_sum r) % 65536 ≡ word_sum s % 65536
sum_first s r a n e en = ap (λ (k : ℕ). k % 65536) (ap (λ (k : ℕ). k * 256 + low_sum r) en ∙ sym (ap word_sum e ∙ high_first a r))

-- the byte behind the pairs of bytes, or 0
abbrev pub last_byte : List ℕ → ℕ
last_byte s = get_or (drop (length s - length s % 2) s) 0 0

-- a pair, and the rest
pub pair_first : (s p r : List ℕ) → s ≡ p ++ r → length p ≡ 2 → (low_sum s ≡ get_or p 0 0 + get_or p 1 0 * 256 + low_sum r) × (last_byte s ≡ last_byte r)
unfolding low_sum
pair_first s [] r e h = absurd (omega arith)
pair_first s (a ∷ []) r e h = absurd (omega arith)
pair_first s (a ∷ b ∷ []) r e h =
    let n : suc (suc (length r)) - suc (suc (length r)) % 2 ≡ suc (suc (length r - length r % 2)) = omega arith in
    (ap low_sum e ∙ omega (arith, high_first b r), ap last_byte e ∙ ap (λ (k : ℕ). get_or (drop k (a ∷ b ∷ r)) 0 0) n)
pair_first s (a ∷ b ∷ x ∷ p) r e h = absurd (omega arith)

-- no pair
pub no_pair : (s : List ℕ) → length s < 2 → low_sum s ≡ last_byte s
unfolding low_sum word_sum
no_pair [] h = refl
no_pair (a ∷ []) h = omega arith
no_pair (a ∷ b ∷ s) h = absurd (omega arith)

-- a loop that adds numbers: one more, and the last. x is the sum from there on, v the number added, b the rest
pub add_more : (x b s v r t : ℕ) → x ≡ v + b → r ≡ (s + v) % 65536 → (s + x) % 65536 ≡ t → (r + b) % 65536 ≡ t
add_more x b s v r t ex er inv = omega arith

-- the word at an even byte set to zero takes its number from the sum
zero_at : (s : List ℕ) (k : ℕ) → k % 2 ≡ 0 → word_sum s ≡ word_sum (put s k (0 ∷ 0 ∷ [])) + (get_or s k 0 * 256 + get_or s (suc k) 0)
unfolding word_sum put
zero_at [] k e = omega arith
zero_at (a ∷ []) zero e = omega arith
zero_at (a ∷ []) (suc zero) e = absurd (omega arith)
zero_at (a ∷ []) (suc (suc k)) e = omega arith
zero_at (a ∷ b ∷ s) zero e = omega arith
zero_at (a ∷ b ∷ s) (suc zero) e = absurd (omega arith)
zero_at (a ∷ b ∷ s) (suc (suc k)) e = omega (arith, zero_at s k (omega arith))

-- all words less the one at the place
pub place_taken : (s : List ℕ) (word all v r : ℕ) → all ≡ word_sum s % 65536 → v ≡ word_at s word → r < 65536 → (r + v) % 65536 ≡ all
    → r ≡ packet_sum s word
unfolding packet_sum zeroed
place_taken s word all v r ea ev l er =
    let z = rw (← add-one (word * 2)) at (zero_at s (word * 2) (omega arith)) in
    omega arith

-- a place past the end
pub place_past : (s : List ℕ) (word : ℕ) → length s ≤ word → word_sum s % 65536 ≡ packet_sum s word
unfolding packet_sum zeroed
place_past s word h = ap (λ (l : List ℕ). word_sum l % 65536) (sym (put_past (0 ∷ 0 ∷ []) s (word * 2) (omega arith)))

pub sum_lt : (s : List ℕ) (word : ℕ) → packet_sum s word < 65536
unfolding packet_sum
sum_lt s word = omega arith
