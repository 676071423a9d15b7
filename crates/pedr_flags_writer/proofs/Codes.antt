-- Quality, class and encoder bits, taken apart and put together, both ways.
use Prim.Native.Nat.{ℕ, zero, suc, ◌+◌, ◌*◌, ◌/◌, ◌%◌, ◌<◌, ◌≤◌}
use mathlib.Core.Path.{◌≡◌, refl, sym, ap, ◌∙◌}
use native.Mathlib.Nat.{div-div-eq-div-mul, mod-mod}
use native.Mathlib.Omega.{arith}
use borrow.Author.Tests.{ne_eqb}
use lib.Count.{ones}
use Rattle.numbers.proofs.Bits.{ones_bits}
use Rattle.octets.specs.Bytes.{bits_at}
use Rattle.pedr_flags.specs.Quality.{good_count}
use Rattle.pedr_flags.specs.Class.{class_of, class_number}
use Rattle.pedr_flags.specs.Encoder.{encoder_of}
use Rattle.pedr_flags.specs.declared.Quality.{Quality}
use Rattle.pedr_flags.specs.declared.Encoder.{Encoder}
use Rattle.pedr_flags_writer.specs.Quality.{quality_bits}
use Rattle.pedr_flags_writer.specs.Encoder.{encoder_byte}

-- a number of 24 bits is its two parts
pub quality_whole : (n c : ℕ) → n < 16777216 → quality_bits (record { good = bits_at n 0 20; carried = bits_at n 20 4; counter = c }) ≡ n
quality_whole n c h = omega arith

-- and two parts of 20 and 4 bits are those of their number
pub quality_parts : (q : Quality) → q.good ≤ 1048575 → q.carried ≤ 15 → (bits_at (quality_bits q) 0 20 ≡ q.good) × (bits_at (quality_bits q) 20 4 ≡ q.carried)
quality_parts q g c = (omega arith, omega arith)

pub quality_lt : (q : Quality) → quality_bits q < 16777216
quality_lt q = omega arith

-- the 20 lowest bits counted are those that stay
pub count_low : (n : ℕ) → good_count (n % 1048576) ≡ good_count n
count_low n = sym (ones_bits (n % 1048576) 20) ∙ ap ones (omega arith) ∙ ones_bits n 20

pub class_whole : (n : ℕ) → class_number (class_of n) ≡ n
class_whole zero = refl
class_whole (suc zero) = refl
class_whole (suc (suc n)) = simp (ne_eqb (suc (suc n)) 0 (λ e. omega arith), ne_eqb (suc (suc n)) 1 (λ e. omega arith))

-- digits of base 4
four_digits : (a b c d : ℕ) → a < 4 → b < 4 → c < 4 → d < 4 → (n : ℕ) → n ≡ a + b * 4 + c * 16 + d * 64
    → (n % 4 ≡ a) × (n / 4 % 4 ≡ b) × (n / 4 / 4 % 4 ≡ c) × (n / 4 / 4 / 4 % 4 ≡ d)
four_digits a b c d ha hb hc hd n e =
    let q : n / 4 ≡ b + c * 4 + d * 16 = omega arith in
    let r : n / 4 / 4 ≡ c + d * 4 = omega arith in
    (omega arith, omega arith, omega arith, omega arith)

quarter : (n : ℕ) → (n / 16 ≡ n / 4 / 4) × (n / 64 ≡ n / 4 / 4 / 4)
quarter n = (sym (div-div-eq-div-mul n 4 4), sym (div-div-eq-div-mul (n / 4) 4 4 ∙ div-div-eq-div-mul n 4 16))

pub encoder_whole : (b : ℕ) → b < 256 → encoder_byte (encoder_of b) ≡ b
encoder_whole b h = let q = quarter b in simp mod-mod (rw (q.0, q.1) (base_four b h))
  where
    base_four : (b : ℕ) → b < 256 → b % 4 + b / 4 % 4 * 4 + b / 4 / 4 % 4 * 16 + b / 4 / 4 / 4 % 4 * 64 ≡ b
    base_four b h = omega arith

pub encoder_parts : (e : Encoder) → e.start < 4 → e.carried_low < 4 → e.stop < 4 → e.carried_high < 4 → encoder_of (encoder_byte e) ≡ e
encoder_parts e ha hb hc hd =
    let n = encoder_byte e in
    let q = quarter n in
    let d = four_digits e.start e.carried_low e.stop e.carried_high ha hb hc hd n (omega arith) in
    let low = d.1 in
    let stop = ap (λ (m : ℕ). m % 4) q.0 ∙ d.2 in
    let high = ap (λ (m : ℕ). m % 4) q.1 ∙ d.3 in
    λ i. record { start = d.0 i; carried_low = low i; stop = stop i; carried_high = high i }
