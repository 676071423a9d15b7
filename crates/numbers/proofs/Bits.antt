-- What each operation on words does to a bit. In a program `a << k` is `a * 2 ^ k % 2 ^ w`, `a >> k` is `a / 2 ^ k` and `!a` is
-- `(2 ^ w - 1) - a`, at w bits; `&` and `|` are `bit_and` and `bit_or`.
use mathlib.Core.Path.{◌≡◌, refl, sym, ap, ap₂, ◌∙◌, subst}
use mathlib.Core.Logic.{◌⊎◌, inl, inr, ⊎_elim}
use Prim.Native.Nat.{ℕ, zero, suc, ◌+◌, ◌-◌, ◌*◌, ◌/◌, ◌%◌, ◌^◌, ◌≤◌, ◌<◌, zero-le, suc-le-suc, min, max}
use native.Mathlib.Nat.{add_comm, one-mul, pow-suc, le_of_suc-le-suc, lt_of_lt_of_le, zero-lt-suc}
use native.Mathlib.Nat.{div-one, div_self, div-eq_of_lt, div-eq_of_lt-le, mod-one, mod-lt}
use native.Mathlib.Numerals.{one-add}
use native.Mathlib.Omega.{arith}
use lib.Dec.{lit<}
use lib.Pow.{pow_pos, pow_mono, pow-lt, shl_exact, shl-shr, shr-shr, field, mod-mod-pow, mod-pow-add, high_ones}
use lib.Bits.{bit_and, bit_or, and_step, or_step, and_shr, or_shr, and_le_l, and_mask, and_high}
use lib.Bits.{or_add_and, shifted_half, shifted_even}
use lib.Count.{ones, ones_cat}
use Rattle.numbers.specs.Bit.{bit, bits_set, clear_bit, set_bit}

-- one number is below another, or it is not
pub lt_or_ge : (a b : ℕ) → (a < b) ⊎ (b ≤ a)
lt_or_ge a zero = inr zero-le
lt_or_ge zero (suc b) = inl (suc-le-suc zero-le)
lt_or_ge (suc a) (suc b) = ⊎_elim (λ h. inl (suc-le-suc h)) (λ h. inr (suc-le-suc h)) (lt_or_ge a b)

-- ---- single bits

-- a bit is 0 or 1
pub bit_lt : (n k : ℕ) → bit n k < 2
bit_lt n k = mod-lt (n / 2 ^ k) (zero-lt-suc 1)

-- the lowest bit is the remainder by 2, and each other bit is one of the half
pub bit_zero : (n : ℕ) → bit n 0 ≡ n % 2
bit_zero n = ap (λ (x : ℕ). x % 2) (div-one n)

pub bit_suc : (n k : ℕ) → bit n (suc k) ≡ bit (n / 2) k
bit_suc n k = ap (bit n) (sym (one-add k)) ∙ ap (λ (x : ℕ). x % 2) (sym (shr-shr n 1 k))

-- a word of k bits has only zeros from bit k on
pub bit_above : (n k j : ℕ) → n < 2 ^ k → k ≤ j → bit n j ≡ 0
bit_above n k j h l = ap (λ (x : ℕ). x % 2) (div-eq_of_lt (lt_of_lt_of_le h (pow_mono l)))

-- the highest set bit of a number from 2 ^ k to 2 ^ (k + 1) - 1 is bit k
pub bit_top : (n k : ℕ) → 2 ^ k ≤ n → n < 2 ^ suc k → bit n k ≡ 1
bit_top n k l h =
    let e : 2 ^ suc k ≡ 2 ^ k * 2 = pow-suc 2 k in
    ap (λ (x : ℕ). x % 2) (div-eq_of_lt-le {k = 1} (2 ^ k) (omega arith) (omega arith))

-- ---- shifts and remainders

-- a shift down by k: bit j is what bit k + j was
pub bit_shr : (n k j : ℕ) → bit (n / 2 ^ k) j ≡ bit n (k + j)
bit_shr n k j = ap (λ (x : ℕ). x % 2) (shr-shr n k j)

-- a shift up by k: bit k + j is what bit j was, and the bits below k are 0
pub bit_shl : (n k j : ℕ) → bit (n * 2 ^ k) (k + j) ≡ bit n j
bit_shl n k j = sym (bit_shr (n * 2 ^ k) k j) ∙ ap (λ (x : ℕ). bit x j) (shl-shr n k)

pub bit_shl_below : (n k j : ℕ) → j < k → bit (n * 2 ^ k) j ≡ 0
bit_shl_below n zero j h = absurd (omega arith)
bit_shl_below n (suc k) zero h = bit_zero (n * 2 ^ suc k) ∙ shifted_even n k
bit_shl_below n (suc k) (suc j) h =
    bit_suc (n * 2 ^ suc k) j ∙ ap (λ (x : ℕ). bit x j) (shifted_half n k) ∙ bit_shl_below n k j (le_of_suc-le-suc h)

-- the remainder by 2 ^ w keeps the bits below w
pub bit_mod : (n w j : ℕ) → j < w → bit (n % 2 ^ w) j ≡ bit n j
bit_mod n w j h =
    let m : ℕ = w - suc j in
    let e : (m + 1) + j ≡ w = omega arith in
    subst (λ (x : ℕ). bit (n % 2 ^ x) j ≡ bit n j) e
    (ap (λ (x : ℕ). x % 2) (field n (m + 1) j) ∙ mod-mod-pow (n / 2 ^ j) m 1)

-- ---- or, and, not

-- a bit of `a | b` is the greater of the two bits there, and a bit of `a & b` the lesser
or_lowest : (a b : ℕ) → bit_or a b % 2 ≡ max (a % 2) (b % 2)
or_lowest a b = omega (arith, or_step a b)

and_lowest : (a b : ℕ) → bit_and a b % 2 ≡ min (a % 2) (b % 2)
and_lowest a b = omega (arith, and_step a b)

pub bit_or_lem : (a b k : ℕ) → bit (bit_or a b) k ≡ max (bit a k) (bit b k)
bit_or_lem a b k = rw or_shr (or_lowest (a / 2 ^ k) (b / 2 ^ k))

pub bit_and_lem : (a b k : ℕ) → bit (bit_and a b) k ≡ min (bit a k) (bit b k)
bit_and_lem a b k = rw and_shr (and_lowest (a / 2 ^ k) (b / 2 ^ k))

-- not, in w bits, turns over each bit below w
odd_not : (p n : ℕ) → n < p * 2 → (p * 2 - 1 - n) % 2 ≡ 1 - n % 2
odd_not p n h = omega arith

pub bit_not : (w n j : ℕ) → n < 2 ^ w → j < w → bit ((2 ^ w - 1) - n) j ≡ 1 - bit n j
bit_not zero n j h l = absurd (omega arith)
bit_not (suc w) n zero h l =
    bit_zero ((2 ^ suc w - 1) - n)
    ∙ ap (λ (x : ℕ). (x - 1 - n) % 2) (pow-suc 2 w)
    ∙ odd_not (2 ^ w) n (subst (λ (x : ℕ). n < x) (pow-suc 2 w) h)
    ∙ ap (λ (x : ℕ). 1 - x) (sym (bit_zero n))
bit_not (suc w) n (suc j) h l =
    let e : 2 ^ suc w ≡ 2 ^ w * 2 = pow-suc 2 w in
    bit_suc ((2 ^ suc w - 1) - n) j
    ∙ ap (λ (x : ℕ). bit x j) (omega arith)
    ∙ bit_not w (n / 2) j (omega arith) (omega arith)
    ∙ ap (λ (x : ℕ). 1 - x) (sym (bit_suc n j))

-- the bits that a shares with b, and those that it shares with not b, are together all of a
pub and_not : (w a b : ℕ) → a < 2 ^ w → b < 2 ^ w → bit_and a ((2 ^ w - 1) - b) + bit_and a b ≡ a
and_not zero a b ha hb = omega (arith, and_le_l a ((2 ^ zero - 1) - b), and_le_l a b)
and_not (suc w) a b ha hb =
    let e : 2 ^ suc w ≡ 2 ^ w * 2 = pow-suc 2 w in
    let n : ℕ = (2 ^ suc w - 1) - b in
    let step : bit_and a n ≡ bit_and (a / 2) ((2 ^ w - 1) - b / 2) * 2 + min (a % 2) (1 - b % 2) =
    and_step a n ∙ ap₂ (λ (x y : ℕ). bit_and (a / 2) x * 2 + min (a % 2) y) (omega arith) (omega arith) in
    omega (arith, step, and_step a b, and_not w (a / 2) (b / 2) (omega arith) (omega arith))

-- ---- a mask of one bit

-- 2 ^ k has bit k and no other
pub bit_pow_same : (k : ℕ) → bit (2 ^ k) k ≡ 1
bit_pow_same k = ap (λ (x : ℕ). x % 2) (div_self (pow_pos k))

pub bit_pow_other : (k j : ℕ) → (k ≡ j → ⊥) → bit (2 ^ k) j ≡ 0
bit_pow_other k j h = ⊎_elim below above (lt_or_ge j k)
  where
    below : j < k → bit (2 ^ k) j ≡ 0
    below l = ap (λ (x : ℕ). bit x j) (sym (one-mul (2 ^ k))) ∙ bit_shl_below 1 k j l

    above : k ≤ j → bit (2 ^ k) j ≡ 0
    above l = bit_above (2 ^ k) (suc k) j (pow-lt (omega arith)) (omega (arith, h))

-- `1 << k` is 2 ^ k
pub one_shl : (w k : ℕ) → k < w → 1 * 2 ^ k % 2 ^ w ≡ 2 ^ k
one_shl w k h = shl_exact {a = 1} 1 k w (lit< tt) (omega arith) ∙ one-mul (2 ^ k)

-- `n & (1 << k)` is 2 ^ k where bit k is set, and 0 where it is not
pub and_pow : (n k : ℕ) → bit_and n (2 ^ k) ≡ bit n k * 2 ^ k
and_pow n k = ap (bit_and n) (sym (high_ones 1 k ∙ one-mul (2 ^ k))) ∙ and_high n 1 k

-- `n & !(1 << k)` clears bit k, and `n | (1 << k)` sets it
pub clear_bit_lem : (w n k : ℕ) → n < 2 ^ w → k < w → bit_and n ((2 ^ w - 1) - 2 ^ k) ≡ clear_bit n k
clear_bit_lem w n k h l = omega (arith, and_not w n (2 ^ k) h (pow-lt l), and_pow n k)

pub set_bit_lem : (n k : ℕ) → bit_or n (2 ^ k) ≡ set_bit n k
set_bit_lem n k = omega (arith, or_add_and n (2 ^ k), and_pow n k, and_le_l n (2 ^ k))

-- with bit k set, that bit is 1 and each other bit is as it was
pub bit_set_same : (n k : ℕ) → bit (set_bit n k) k ≡ 1
bit_set_same n k = ap (λ (x : ℕ). bit x k) (sym (set_bit_lem n k)) ∙ bit_or_lem n (2 ^ k) k ∙ omega (arith, bit_pow_same k)

pub bit_set_other : (n k j : ℕ) → (k ≡ j → ⊥) → bit (set_bit n k) j ≡ bit n j
bit_set_other n k j d = ap (λ (x : ℕ). bit x j) (sym (set_bit_lem n k)) ∙ bit_or_lem n (2 ^ k) j ∙ omega (arith, bit_pow_other k j d)

-- with bit k cleared, that bit is 0 and each other bit of the word is as it was
module _ (w n k : ℕ) (h : n < 2 ^ w) (l : k < w) where
  cleared : (j : ℕ) → j < w → bit (clear_bit n k) j ≡ min (bit n j) (1 - bit (2 ^ k) j)
  cleared j a =
      ap (λ (x : ℕ). bit x j) (sym (clear_bit_lem w n k h l))
      ∙ bit_and_lem n ((2 ^ w - 1) - 2 ^ k) j
      ∙ ap (min (bit n j)) (bit_not w (2 ^ k) j (pow-lt l) a)

  pub bit_clear_same : bit (clear_bit n k) k ≡ 0
  bit_clear_same = cleared k l ∙ omega (arith, bit_pow_same k)

  pub bit_clear_other : (j : ℕ) → j < w → (k ≡ j → ⊥) → bit (clear_bit n k) j ≡ bit n j
  bit_clear_other j a d = cleared j a ∙ omega (arith, bit_pow_other k j d)

-- ---- counts

-- the number of ones among the k lowest bits is the count of those that are set
ones_digit : (d : ℕ) → d < 2 → ones d ≡ d
unfolding ones
ones_digit zero h = refl
ones_digit (suc zero) h = refl
ones_digit (suc (suc d)) h = absurd (omega arith)

pub ones_bits : (n k : ℕ) → ones (n % 2 ^ k) ≡ bits_set n k
unfolding bits_set ones
ones_bits n zero = ap ones (mod-one n)
ones_bits n (suc k) =
    ap (λ (x : ℕ). ones (n % 2 ^ x)) (sym (one-add k))
    ∙ ap ones (mod-pow-add n 1 k)
    ∙ ones_cat k (bit n k) (n % 2 ^ k) (mod-lt n (pow_pos k))
    ∙ ap₂ (λ (x y : ℕ). x + y) (ones_digit (bit n k) (bit_lt n k)) (ones_bits n k)
    ∙ add_comm (bit n k) (bits_set n k)

-- of k bits at most k are set
pub bits_set_le : (n k : ℕ) → bits_set n k ≤ k
unfolding bits_set
bits_set_le n zero = omega arith
bits_set_le n (suc k) = omega (arith, bits_set_le n k, bit_lt n k)

-- ---- masks of low bits

-- the masks that a program writes out take a remainder
pub and_one : (n : ℕ) → bit_and n 1 ≡ n % 2
and_one n = and_mask n 1

pub and_three : (n : ℕ) → bit_and n 3 ≡ n % 4
and_three n = and_mask n 2
