-- Ranges of signed numbers, for the need of each signed operation that its result fits the width.
use mathlib.Core.Path.{◌≡◌, sym, ◌∙◌, subst}
use Prim.Native.Nat.{ℕ, suc, ◌+◌, ◌*◌, ◌/◌, ◌^◌, ◌<◌, ◌≤◌}
use native.Mathlib.Omega.{arith}
use native.Mathlib.Nat.{mul-le-mul_left, mul-add, le_trans, le_of_eq, le_of_lt, lt_of_lt_of_le, div-le_self}
use lib.Dec.{T, ltb, leb, ltb→lt, leb→le}
use lib.Pow.{pow_mono}
use lib.IntN.{ℤ, pos, negsuc, nat_abs, ◌+ℤ◌, ◌-ℤ◌, ◌*ℤ◌}
use lib.Signed.{mag, quot_z, shr_z, nat_abs-le}
use mir.Syntax.{Width}
use mir.Val.{SFits, Fits, bits, hbits, to_z, of_z}
use mir.ValLaws.{to_z-of_z, to_z_pos, sfits_le}
use Rattle.numbers.proofs.Integers.{up, down, plus, minus, up_neg, down_neg, up_times, down_times, abs, abs_sum}

-- ---- what fits a width

-- a width of h + 1 bits holds the integers from -2^h to 2^h - 1, and no others
pub fits : (w : Width) (x : ℤ) → up x < 2 ^ hbits w + down x → down x ≤ 2 ^ hbits w + up x → SFits w x
fits w (pos a) h k = record { sfits = omega arith }
fits w (negsuc a) h k = record { sfits = omega arith }

pub fits_up : (w : Width) (x : ℤ) → SFits w x → up x < 2 ^ hbits w
fits_up w (pos a) f = f.sfits
fits_up w (negsuc a) f = omega (arith, f.sfits)

pub fits_down : (w : Width) (x : ℤ) → SFits w x → down x ≤ 2 ^ hbits w
fits_down w (pos a) f = omega arith
fits_down w (negsuc a) f = f.sfits

-- -1 - x fits where x does
pub not_fits : (w : Width) (x : ℤ) → SFits w x → SFits w (negsuc 0 -ℤ x)
not_fits w x f =
    fits w _ (omega (arith, minus (negsuc 0) x, fits_down w x f)) (omega (arith, minus (negsuc 0) x, fits_up w x f))

-- and so does its quotient, rounded toward zero or down
pub quot_fits : (w : Width) (m : ℕ) (x : ℤ) → SFits w x → SFits w (quot_z x (pos m))
quot_fits w m (pos a) f = sfits_le (div-le_self a m) f
quot_fits w m (negsuc a) f =
    fits w _
    (omega (arith, up_neg (pos (suc a / m)), f.sfits))
    (omega (arith, down_neg (pos (suc a / m)), div-le_self (suc a) m, f.sfits))

-- what the machine reads back from the bits of a number that fits, fits
pub reread : {w : Width} {x : ℤ} → SFits w x → SFits w (to_z w (of_z w x))
reread {w} {x} f = subst (SFits w) (sym (to_z-of_z w x f)) f

-- the signed result of a call, held in a local: `held w32 c.call.ok c.call.ensures`
pub held : (w : Width) {x y : ℤ} → mag x < 2 ^ hbits w → x ≡ y → to_z w (of_z w x) ≡ y
held w {x} h e = to_z-of_z w x (record { sfits = h }) ∙ e

-- ---- ranges, put together as an expression is

-- x lies from -n to n
pub record Range (n : ℕ) (x : ℤ) : Type 0 where
  pub most : nat_abs x ≤ n

-- a natural number, an unsigned number of a width, and a signed one
pub of_nat : (n x : ℕ) → x ≤ n → Range n (pos x)
of_nat n x h = record { most = h }

pub of_unsigned : {w : Width} {x : ℕ} → Fits w x → Range (2 ^ bits w) (pos x)
of_unsigned f = record { most = le_of_lt f.fits }

pub of_width : (w : Width) (x : ℤ) → SFits w x → Range (2 ^ hbits w) x
of_width w x f = record { most = nat_abs-le x f.sfits }

-- a sum, a difference, a multiple by a natural number, a quotient rounded down
pub of_sum : {m n : ℕ} {x y : ℤ} → Range m x → Range n y → Range (m + n) (x +ℤ y)
of_sum {m} {n} {x} {y} a b = record { most = omega (arith, plus x y, abs (x +ℤ y), abs_sum x, abs_sum y, a.most, b.most) }

pub of_difference : {m n : ℕ} {x y : ℤ} → Range m x → Range n y → Range (m + n) (x -ℤ y)
of_difference {m} {n} {x} {y} a b = record { most = omega (arith, minus x y, abs (x -ℤ y), abs_sum x, abs_sum y, a.most, b.most) }

times_abs : (k : ℕ) (x : ℤ) → nat_abs (pos k *ℤ x) ≡ k * nat_abs x
times_abs k x = abs_sum (pos k *ℤ x) ∙ simp (up_times, down_times, ← mul-add, ← abs_sum)

pub of_multiple : (k : ℕ) {n : ℕ} {x : ℤ} → Range n x → Range (k * n) (pos k *ℤ x)
of_multiple k {x = x} a = record { most = le_trans (le_of_eq (times_abs k x)) (mul-le-mul_left k a.most) }

pub of_floor : (m : ℕ) {n : ℕ} {x : ℤ} → Range n x → Range n (shr_z x m)
of_floor m {x = pos x} a = record { most = omega (arith, div-le_self x m, a.most) }
of_floor m {x = negsuc x} a = record { most = omega (arith, div-le_self x m, a.most) }

-- ---- from ranges to widths; at numerals the test is `tt`

-- what lies in a range below 2^h fits the width
pub in_width : (w : Width) {n : ℕ} {x : ℤ} → T (ltb n (2 ^ hbits w)) → Range n x → SFits w x
in_width w {n} {x} t r =
    let l : n < 2 ^ hbits w = ltb→lt n (2 ^ hbits w) t in
    fits w x (omega (arith, abs_sum x, r.most)) (omega (arith, abs_sum x, r.most))

-- and the machine reads it back as it is
pub exact : (w : Width) {n : ℕ} {x : ℤ} → T (ltb n (2 ^ hbits w)) → Range n x → to_z w (of_z w x) ≡ x
exact w {n} {x} t r = to_z-of_z w x (in_width w t r)

-- an unsigned number of a narrower width, cast to a signed one, is the same number
pub widened : (w' : Width) {w : Width} {x : ℕ} → T (leb (bits w) (hbits w')) → Fits w x → to_z w' x ≡ pos x
widened w' {w} {x} t f = to_z_pos w' x (lt_of_lt_of_le f.fits (pow_mono (leb→le (bits w) (hbits w') t)))
