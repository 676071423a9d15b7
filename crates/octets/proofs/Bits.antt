-- A number given by the table of its bits.
use Prim.Native.Nat.{ℕ, zero, suc, ◌+◌, ◌*◌, ◌/◌, ◌%◌, ◌^◌}
use mathlib.Core.Path.{◌≡◌, sym, ap, ap₂, ◌∙◌}
use mathlib.Core.Bool.{Bool}
use native.Mathlib.Nat.{mod-one}
use native.Mathlib.Numerals.{add-one}
use native.Mathlib.Omega.{arith}
use lib.Dec.{eqb}
use lib.Pow.{mod-pow-add}
use Rattle.numbers.specs.Bit.{bit, from_bits, digit}
use Rattle.numbers.proofs.Bits.{bit_lt, bit_zero, bit_suc}
use Rattle.numbers.proofs.Given.{digit_test}
use Rattle.octets.specs.Table.{table}
use Rattle.octets.proofs.Fill.{table_same}

-- bit k of x is a one
abbrev pub is_set : ℕ → ℕ → Bool
is_set x k = eqb (bit x k) 1

-- the n lowest bits of x, put together again
pub from_table : (n x : ℕ) → from_bits (table n (is_set x)) ≡ x % 2 ^ n
unfolding from_bits
from_table zero x = sym (mod-one x)
from_table (suc n) x =
    let d : digit (is_set x 0) ≡ x % 2 = digit_test (bit x 0) (bit_lt x 0) ∙ bit_zero x in
    let r : from_bits (table n (λ k. is_set x (suc k))) ≡ x / 2 % 2 ^ n =
    ap from_bits (table_same n (λ k. is_set x (suc k)) (is_set (x / 2)) (λ k. ap (λ (b : ℕ). eqb b 1) (bit_suc x k))) ∙ from_table n (x / 2) in
    ap₂ (λ (a b : ℕ). a + 2 * b) d r ∙ omega arith ∙ sym (mod-pow-add x n 1) ∙ ap (λ (k : ℕ). x % 2 ^ k) (add-one n)
