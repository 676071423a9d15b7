-- The packet sum. Document 01, "Packet layout": set its word to zero, add the 540 words with carries out of 16 bits dropped; word w is
-- packet bytes 2w and 2w + 1. Request 3: the sum of the words of any lent bytes, carries out of 16 bits dropped, a last odd byte being the
-- upper half of a word; it is the remainder of word_sum by 65,536.
use Rattle.std.specs.Prelude.{ℕ, ◌+◌, ◌*◌, ◌%◌, List, [], ◌∷◌}
use Rattle.octets.specs.Bytes.{nat_at, put}

-- a word, by its number
abbrev pub word_at : List ℕ → ℕ → ℕ
word_at s word = nat_at s (word * 2) 2

-- the words added; a last odd byte is the upper half of a word
unfoldable pub word_sum : List ℕ → ℕ
word_sum [] = 0
word_sum (a ∷ []) = a * 256
word_sum (a ∷ b ∷ s) = a * 256 + b + word_sum s

-- the bytes with a word set to zero
unfoldable pub zeroed : ℕ → List ℕ → List ℕ
zeroed word s = put s (word * 2) (0 ∷ 0 ∷ [])

-- the packet sum that stands at a word (document 01's place): that word is taken as zero
unfoldable pub packet_sum : List ℕ → ℕ → ℕ
packet_sum s word = word_sum (zeroed word s) % 65536
