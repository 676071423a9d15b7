-- The bits of a number. Bit 0 is the lowest, and a number has bits without end: those above its highest set bit are 0.
use Rattle.std.specs.Prelude.{ℕ, zero, suc, ◌+◌, ◌-◌, ◌*◌, ◌/◌, ◌%◌, ◌^◌, Bool, true, false, List, [], ◌∷◌}

-- bit k of n, 0 or 1
abbrev pub bit : ℕ → ℕ → ℕ
bit n k = n / 2 ^ k % 2

-- how many of the bits 0 to k - 1 of n are set
unfoldable pub bits_set : ℕ → ℕ → ℕ
bits_set n zero = 0
bits_set n (suc k) = bits_set n k + bit n k

-- n with bit k made 0, and its other bits kept
abbrev pub clear_bit : ℕ → ℕ → ℕ
clear_bit n k = n - bit n k * 2 ^ k

-- n with bit k made 1, and its other bits kept
abbrev pub set_bit : ℕ → ℕ → ℕ
set_bit n k = clear_bit n k + 2 ^ k

-- 1 for true, 0 for false
abbrev pub digit : Bool → ℕ
digit true = 1
digit false = 0

-- the number whose bits are given, bit 0 first: true is a one
unfoldable pub from_bits : List Bool → ℕ
from_bits [] = 0
from_bits (b ∷ bs) = digit b + 2 * from_bits bs
