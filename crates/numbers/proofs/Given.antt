-- Numbers given by their bits.
use Prim.Native.Nat.{ℕ, zero, suc, ◌+◌, ◌*◌, ◌^◌, ◌<◌}
use mathlib.Core.Path.{◌≡◌, refl, ap, ◌∙◌}
use mathlib.Core.Bool.{Bool, true, false}
use mathlib.Core.List.{List, [], ◌∷◌, ◌++◌}
use native.Mathlib.Nat.{pow-zero, pow-suc, mul_comm, mul_assoc}
use native.Mathlib.Omega.{arith}
use lib.Dec.{eqb}
use lib.ListN.{length, get_or}
use Rattle.numbers.specs.Bit.{bit, digit, from_bits}
use Rattle.numbers.proofs.Bits.{bit_zero, bit_suc}

pub digit_lt : (b : Bool) → digit b < 2
digit_lt true = omega arith
digit_lt false = omega arith

-- a number of n bits is below 2^n
pub from_bits_lt : (bs : List Bool) → from_bits bs < 2 ^ length bs
unfolding from_bits
from_bits_lt [] = omega (arith, pow-zero 2)
from_bits_lt (b ∷ bs) = omega (arith, pow-suc 2 (length bs), digit_lt b, from_bits_lt bs)

-- bits one after the other
pub from_bits_append : (xs ys : List Bool) → from_bits (xs ++ ys) ≡ from_bits xs + 2 ^ length xs * from_bits ys
unfolding from_bits
from_bits_append [] ys = omega (arith, pow-zero 2)
from_bits_append (b ∷ xs) ys =
    let p : ℕ = 2 ^ length xs in
    let n : ℕ = from_bits ys in
    let e : 2 ^ suc (length xs) ≡ 2 * p = pow-suc 2 (length xs) ∙ mul_comm p 2 in
    ap (λ (k : ℕ). digit b + 2 * k) (from_bits_append xs ys) ∙ rw (e, mul_assoc 2 p n) (omega arith)

-- each bit is the one given
pub bit_given : (bs : List Bool) (k : ℕ) → bit (from_bits bs) k ≡ digit (get_or bs k false)
unfolding from_bits
bit_given [] k = zero_bit k
  where
    zero_bit : (k : ℕ) → bit 0 k ≡ 0
    zero_bit zero = refl
    zero_bit (suc k) = bit_suc 0 k ∙ zero_bit k
bit_given (b ∷ bs) zero = bit_zero (digit b + 2 * from_bits bs) ∙ omega (arith, digit_lt b)
bit_given (b ∷ bs) (suc k) =
    bit_suc (digit b + 2 * from_bits bs) k ∙ ap (λ (n : ℕ). bit n k) (omega (arith, digit_lt b)) ∙ bit_given bs k

-- a bit is tested by holding it against 1
pub digit_test : (n : ℕ) → n < 2 → digit (eqb n 1) ≡ n
digit_test zero h = refl
digit_test (suc zero) h = refl
digit_test (suc (suc n)) h = absurd (omega arith)

pub test_digit : (b : Bool) → eqb (digit b) 1 ≡ b
test_digit true = refl
test_digit false = refl
