-- Laws of the numbers read from bytes, over the width.
use Prim.Native.Nat.{ℕ, zero, suc, ◌+◌, ◌-◌, ◌*◌, ◌/◌, ◌%◌, ◌^◌, ◌<◌}
use mathlib.Core.Path.{◌≡◌, sym, ap, ap₂, ◌∙◌}
use mathlib.Core.Logic.{⊎_elim}
use mathlib.Core.List.{List}
use native.Mathlib.Nat.{pow-zero, pow-suc}
use native.Mathlib.Omega.{arith}
use lib.ListN.{get_or}
use Rattle.numbers.specs.Bit.{bit}
use Rattle.numbers.proofs.Bits.{lt_or_ge, bit_mod, bit_shr}
use Rattle.octets.specs.Bytes.{nat_at, Octets}
pub use Rattle.octets.specs.Word.{nat_suc, nat_same}

-- a number of n bytes is below 256^n
pub nat_lt : (s : List ℕ) (i n : ℕ) → Octets s → nat_at s i n < 256 ^ n
nat_lt s i zero o = omega (arith, pow-zero 256)
nat_lt s i (suc n) o =
    let e : 256 ^ suc n ≡ 256 ^ n * 256 = pow-suc 256 n in
    let b : get_or s (i + n) 0 < 256 = o (i + n) in
    rw nat_suc (omega (arith, nat_lt s i n o))

-- the eight lowest bits of 256 x + b are those of the byte b, and the others those of x
low_bit : (x b k : ℕ) → b < 256 → k < 8 → bit (x * 256 + b) k ≡ bit b k
low_bit x b k h l = sym (bit_mod (x * 256 + b) 8 k l) ∙ ap (λ (y : ℕ). bit y k) (omega arith)

high_bit : (x b k : ℕ) → b < 256 → bit (x * 256 + b) (8 + k) ≡ bit x k
high_bit x b k h = sym (bit_shr (x * 256 + b) 8 k) ∙ ap (λ (y : ℕ). bit y k) (omega arith)

-- bit k of a number of n bytes is bit k mod 8 of its byte n - 1 - floor(k / 8), counted from the first
pub nat_bit : (s : List ℕ) (i n k : ℕ) → Octets s → k < 8 * n → bit (nat_at s i n) k ≡ bit (get_or s (i + (n - 1 - k / 8)) 0) (k % 8)
nat_bit s i zero k o h = absurd (omega arith)
nat_bit s i (suc n) k o h =
    ap (λ (x : ℕ). bit x k) (nat_suc s i n)
    ∙ ⊎_elim
    (λ l. low_bit _ _ k (o (i + n)) l ∙ ap₂ (λ (j m : ℕ). bit (get_or s j 0) m) (omega arith) (omega arith))
    (λ l.
    let e : k ≡ 8 + (k - 8) = omega arith in
    ap (bit (nat_at s i n * 256 + get_or s (i + n) 0)) e
    ∙ high_bit _ _ (k - 8) (o (i + n))
    ∙ nat_bit s i n (k - 8) o (omega arith)
    ∙ ap₂ (λ (j m : ℕ). bit (get_or s j 0) m) (omega arith) (omega arith))
    (lt_or_ge k 8)
