-- Numbers in bytes. Document 01, "What is built": numbers have their most significant byte first; "PEDR record": i is signed two's
-- complement, u unsigned. A list of bytes is indexed from 0, and a byte past its end counts as 0.
use Rattle.std.specs.Prelude.{ℕ, zero, suc, ◌+◌, ◌-◌, ◌*◌, ◌/◌, ◌%◌, ◌^◌, ◌<◌, cond, List, [], ◌∷◌, ltb, ℤ, pos, negsuc, ◌-ℤ◌, get_or, take, drop}
use Rattle.std.proofs.lemmas.List.Edits.{sets}

-- every byte is below 256
abbrev pub Octets : List ℕ → Type 0
Octets s = (i : ℕ) → get_or s i 0 < 256

-- the number in the n bytes of s from index i on
abbrev pub nat_at : List ℕ → ℕ → ℕ → ℕ
nat_at s i zero = 0
nat_at s i (suc zero) = get_or s i 0
nat_at s i (suc (suc n)) = nat_at s i (suc n) * 256 + get_or s (i + suc n) 0

-- the two's complement reading of a number x of k bits: x below 2^(k - 1), and x - 2^k from there on
abbrev pub signed : ℕ → ℕ → ℤ
signed k x = cond (ltb x (2 ^ (k - 1))) (pos x) (pos x -ℤ pos (2 ^ k))

-- the integers that k bits of two's complement hold: from -2^(k - 1) to 2^(k - 1) - 1
abbrev pub SignedFits : ℕ → ℤ → Type 0
SignedFits k (pos n) = n < 2 ^ (k - 1)
SignedFits k (negsuc n) = n < 2 ^ (k - 1)

-- the number of k bits whose two's complement reading is z: z from 0 on, and z + 2^k below 0
abbrev pub complemented : ℕ → ℤ → ℕ
complemented k (pos n) = n
complemented k (negsuc n) = 2 ^ k - suc n

-- the signed number in the n bytes of s from index i on
abbrev pub int_at : List ℕ → ℕ → ℕ → ℤ
int_at s i n = signed (8 * n) (nat_at s i n)

-- the n bytes of the number x
abbrev pub octets_of : ℕ → ℕ → List ℕ
octets_of zero x = []
octets_of (suc zero) x = x % 256 ∷ []
octets_of (suc (suc n)) x = x / 256 ^ suc n % 256 ∷ octets_of (suc n) x

-- the n bits of the number x from bit k up; bit 0 is the lowest
abbrev pub bits_at : ℕ → ℕ → ℕ → ℕ
bits_at x zero n = x % 2 ^ n
bits_at x (suc k) n = x / 2 ^ suc k % 2 ^ n

-- the n bytes of s from index i on; as many of them as there are
abbrev pub part : List ℕ → ℕ → ℕ → List ℕ
part s i n = take n (drop i s)

-- s with the bytes b stored from index i on; a byte that would fall past the end of s is left out
unfoldable pub put : List ℕ → ℕ → List ℕ → List ℕ
put s i b = sets s i b
