-- Integers for `omega`, which reads only natural numbers: an integer z is the difference up z - down z, of which one side is 0.
-- Each operation has a law that is an equation of natural numbers, and each test or order one that is a comparison of them.
use mathlib.Core.Path.{◌≡◌, refl, sym, ap, ◌∙◌, subst}
use mathlib.Core.Bool.{Bool, true, false, cond}
use Prim.Native.Nat.{ℕ, zero, suc, ◌+◌, ◌-◌, ◌*◌, ◌/◌, ◌<◌, ◌≤◌}
use native.Mathlib.Omega.{arith}
use native.Mathlib.Nat.{zero-add, add-zero, div-add-mod, mod-lt, mul-zero, mul-suc}
use borrow.Author.Tests.{ltb-true, ltb-false, leb-true, leb-false, le-leb, lt-leb, lt-ltb, le-ltb}
use lib.Dec.{T, leb, ltb, leb→le, le→leb, leb-suc-suc}
use lib.IntN.{ℤ, pos, negsuc, neg_ℤ, nat_abs, sub_ℕ, ◌+ℤ◌, ◌-ℤ◌, ◌*ℤ◌}
use lib.Signed.{le_z, lt_z, quot_z, shr_z, ◌≤ℤ◌}

-- the size of an integer that is not negative, and 0 for the others
abbrev pub up : ℤ → ℕ
up (pos n) = n
up (negsuc n) = 0

-- the size of a negative integer, and 0 for the others
abbrev pub down : ℤ → ℕ
down (pos n) = 0
down (negsuc n) = suc n

-- ---- operations

-- a - b, of natural numbers
pub sub_nat : (a b : ℕ) → up (sub_ℕ a b) + b ≡ a + down (sub_ℕ a b)
sub_nat a b = go (ltb a b) refl
  where
    difference : Bool → ℤ
    difference t = cond t (negsuc (b - suc a)) (pos (a - b))

    go : (t : Bool) → ltb a b ≡ t → up (difference t) + b ≡ a + down (difference t)
    go true e = omega (arith, ltb-true a b e)
    go false e = omega (arith, ltb-false a b e)

-- x + y
pub plus : (x y : ℤ) → up (x +ℤ y) + (down x + down y) ≡ up x + up y + down (x +ℤ y)
plus (pos a) (pos b) = omega arith
plus (pos a) (negsuc b) = omega (arith, sub_nat a (suc b))
plus (negsuc a) (pos b) = omega (arith, sub_nat b (suc a))
plus (negsuc a) (negsuc b) = omega arith

-- - x, whose sides change places
pub up_neg : (x : ℤ) → up (neg_ℤ x) ≡ down x
up_neg (pos zero) = refl
up_neg (pos (suc n)) = refl
up_neg (negsuc n) = refl

pub down_neg : (x : ℤ) → down (neg_ℤ x) ≡ up x
down_neg (pos zero) = refl
down_neg (pos (suc n)) = refl
down_neg (negsuc n) = refl

-- x - y
pub minus : (x y : ℤ) → up (x -ℤ y) + (down x + up y) ≡ up x + down y + down (x -ℤ y)
minus x y = omega (arith, plus x (neg_ℤ y), up_neg y, down_neg y)

-- k x, for a natural number k
pub up_times : (k : ℕ) (x : ℤ) → up (pos k *ℤ x) ≡ k * up x
up_times k (pos a) = refl
up_times k (negsuc a) = up_neg (pos (k * suc a)) ∙ sym (mul-zero k)

pub down_times : (k : ℕ) (x : ℤ) → down (pos k *ℤ x) ≡ k * down x
down_times k (pos a) = sym (mul-zero k)
down_times k (negsuc a) = down_neg (pos (k * suc a))

-- |x|: `abs` where |x| stands in the goal, `abs-sum` where it stands in a fact
pub abs : (x : ℤ) → nat_abs x ≡ (up x - down x) + (down x - up x)
abs (pos n) = omega arith
abs (negsuc n) = omega arith

pub abs_sum : (x : ℤ) → nat_abs x ≡ up x + down x
abs_sum (pos n) = omega arith
abs_sum (negsuc n) = omega arith

-- ---- equality and order

-- x ≡ y, from an equation of natural numbers and back
pub same : (x y : ℤ) → up x + down y ≡ up y + down x → x ≡ y
same (pos a) (pos b) h = ap pos (omega arith)
same (pos a) (negsuc b) h = absurd (omega arith)
same (negsuc a) (pos b) h = absurd (omega arith)
same (negsuc a) (negsuc b) h = ap negsuc (omega arith)

pub equal : (x y : ℤ) → x ≡ y → up x + down y ≡ up y + down x
equal x y e = ap (λ (z : ℤ). up z + down y) e ∙ ap (λ (z : ℤ). up y + down z) (sym e)

-- the tests of integers are tests of natural numbers
le_test : (x y : ℤ) → le_z x y ≡ leb (up x + down y) (up y + down x)
le_test (pos a) (pos b) = simp add-zero
le_test (pos a) (negsuc b) = sym (lt-leb (a + suc b) 0 (omega arith))
le_test (negsuc a) (pos b) = sym (le-leb 0 (b + suc a) (omega arith))
le_test (negsuc a) (negsuc b) = simp (zero-add, leb-suc-suc)

lt_test : (x y : ℤ) → lt_z x y ≡ ltb (up x + down y) (up y + down x)
lt_test (pos a) (pos b) = simp add-zero
lt_test (pos a) (negsuc b) = sym (le-ltb (a + suc b) 0 (omega arith))
lt_test (negsuc a) (pos b) = sym (lt-ltb 0 (b + suc a) (omega arith))
lt_test (negsuc a) (negsuc b) = simp (zero-add, leb-suc-suc)

module _ (x y : ℤ) where
  -- what the value of a test tells
  pub le_true : le_z x y ≡ true → up x + down y ≤ up y + down x
  le_true e = leb-true _ _ (sym (le_test x y) ∙ e)

  pub le_false : le_z x y ≡ false → up y + down x < up x + down y
  le_false e = leb-false _ _ (sym (le_test x y) ∙ e)

  pub lt_true : lt_z x y ≡ true → up x + down y < up y + down x
  lt_true e = ltb-true _ _ (sym (lt_test x y) ∙ e)

  pub lt_false : lt_z x y ≡ false → up y + down x ≤ up x + down y
  lt_false e = ltb-false _ _ (sym (lt_test x y) ∙ e)

  -- and the value of a test, from what it tells
  pub le_yes : up x + down y ≤ up y + down x → le_z x y ≡ true
  le_yes h = le_test x y ∙ le-leb _ _ h

  pub le_no : up y + down x < up x + down y → le_z x y ≡ false
  le_no h = le_test x y ∙ lt-leb _ _ h

  pub lt_yes : up x + down y < up y + down x → lt_z x y ≡ true
  lt_yes h = lt_test x y ∙ lt-ltb _ _ h

  pub lt_no : up y + down x ≤ up x + down y → lt_z x y ≡ false
  lt_no h = lt_test x y ∙ le-ltb _ _ h

  -- the order, both ways
  pub ≤ℤ-sides : x ≤ℤ y → up x + down y ≤ up y + down x
  ≤ℤ-sides h = leb→le _ _ (subst T (le_test x y) h.le)

  pub sides-≤ℤ : up x + down y ≤ up y + down x → x ≤ℤ y
  sides-≤ℤ h = record { le = subst T (sym (le_test x y)) (le→leb _ _ h) }

-- With these `omega` reads and proves `x ≡ y`, `x ≤ℤ y` and the values of `le_z` and `lt_z`. It must be told the law of each sum,
-- difference, multiple and |x| that stands in them: `omega (ints, plus x y, abs-sum z)`.
pub ruleset ints = (arith, same, equal, le_true, le_false, lt_true, lt_false, le_yes, le_no, lt_yes, lt_no, ≤ℤ-sides, sides-≤ℤ)

-- ---- x from -n to n

module _ (x : ℤ) (n : ℕ) where
  -- from -n on, the upper bound decides
  pub abs_above : le_z (pos 0 -ℤ pos n) x ≡ true → le_z x (pos n) ≡ leb (nat_abs x) n
  abs_above e = go (leb (nat_abs x) n) refl
    where
      go : (b : Bool) → leb (nat_abs x) n ≡ b → le_z x (pos n) ≡ b
      go true h = omega (ints, leb-true, abs x)
      go false h = omega (ints, leb-false, abs x, minus (pos 0) (pos n))

  -- below -n no bound holds
  pub abs_below : le_z (pos 0 -ℤ pos n) x ≡ false → leb (nat_abs x) n ≡ false
  abs_below e = lt-leb (nat_abs x) n (omega (ints, abs x, minus (pos 0) (pos n)))

-- ---- the quotient rounded down

-- q is x / m rounded down: m q ≤ x, and x < m q + m
pub floor_le : (m : ℕ) (x : ℤ) → 0 < m → m * up (shr_z x m) + down x ≤ up x + m * down (shr_z x m)
floor_le m (pos a) h = omega (arith, div-add-mod a m, mul-zero m)
floor_le m (negsuc a) h = omega (arith, div-add-mod a m, mod-lt a h, mul-zero m, mul-suc m (a / m))

pub floor_lt : (m : ℕ) (x : ℤ) → 0 < m → up x + m * down (shr_z x m) < m * up (shr_z x m) + down x + m
floor_lt m (pos a) h = omega (arith, div-add-mod a m, mod-lt a h, mul-zero m)
floor_lt m (negsuc a) h = omega (arith, div-add-mod a m, mul-zero m, mul-suc m (a / m))

-- it is found by division toward zero: of -1 - x for a negative x, and of x itself for the others
pub floor_neg : (m : ℕ) (x : ℤ) → lt_z x (pos 0) ≡ true → negsuc 0 -ℤ quot_z (negsuc 0 -ℤ x) (pos m) ≡ shr_z x m
floor_neg m (pos a) e = absurd (omega (ints, lt_true (pos a) (pos 0) e))
floor_neg m (negsuc a) e =
    ap (λ (y : ℤ). negsuc 0 -ℤ quot_z y (pos m)) (same (negsuc 0 -ℤ negsuc a) (pos a) (omega (arith, minus (negsuc 0) (negsuc a))))
    ∙ same (negsuc 0 -ℤ pos (a / m)) (negsuc (a / m)) (omega (arith, minus (negsuc 0) (pos (a / m))))

pub floor_pos : (m : ℕ) (x : ℤ) → lt_z x (pos 0) ≡ false → quot_z x (pos m) ≡ shr_z x m
floor_pos m (pos a) e = refl
floor_pos m (negsuc a) e = absurd (omega (ints, lt_false (negsuc a) (pos 0) e))
