-- Ladders of refusals: a condition that holds is passed, one that fails gives its number.
use Prim.Native.Nat.{ℕ, zero, suc, ◌<◌, ◌≤◌}
use mathlib.Core.Path.{◌≡◌, refl, sym, ap, ◌∙◌}
use mathlib.Core.Bool.{Bool, true, false, ◌&&◌, false≢true}
use native.Mathlib.Omega.{arith}
use lib.Dec.{eqb, leb}
use borrow.Author.Tests.{eq-eqb, ne_eqb, le-leb, lt-leb, leb-true}
use Rattle.octets.specs.Refusal.{refuse◌unless◌else◌, ◌then◌, within, refused, answered, say, after, refusal_in}

pub pass : (b : Bool) (n next r : ℕ) → b ≡ true → r ≡ next → r ≡ (refuse n unless b else next)
unfolding refuse◌unless◌else◌
pass b n next r e q = rw e q

pub fail : (b : Bool) (n next : ℕ) → b ≡ false → n ≡ (refuse n unless b else next)
unfolding refuse◌unless◌else◌
fail b n next e = rw e

-- the same for the two tests of numbers
pub pass_eq : (x y n next r : ℕ) → x ≡ y → r ≡ next → r ≡ (refuse n unless (eqb x y) else next)
pass_eq x y n next r e q = pass (eqb x y) n next r (eq-eqb x y e) q

pub fail_eq : (x y n next : ℕ) → (x ≡ y → ⊥) → n ≡ (refuse n unless (eqb x y) else next)
fail_eq x y n next e = fail (eqb x y) n next (ne_eqb x y e)

pub pass_le : (x y n next r : ℕ) → x ≤ y → r ≡ next → r ≡ (refuse n unless (leb x y) else next)
pass_le x y n next r e q = pass (leb x y) n next r (le-leb x y e) q

pub fail_le : (x y n next : ℕ) → y < x → n ≡ (refuse n unless (leb x y) else next)
fail_le x y n next e = fail (leb x y) n next (lt-leb x y e)

-- a number within its bounds, below them and above them
pub pass_within : (lo hi x n next r : ℕ) → lo ≤ x → x ≤ hi → r ≡ next → r ≡ (refuse n unless (within lo hi x) else next)
pass_within lo hi x n next r a b q = pass (within lo hi x) n next r (rw (le-leb lo x a) (le-leb x hi b)) q

pub fail_below : (lo hi x n next : ℕ) → x < lo → n ≡ (refuse n unless (within lo hi x) else next)
fail_below lo hi x n next a = fail (within lo hi x) n next (rw (lt-leb lo x a))

pub fail_above : (lo hi x n next : ℕ) → lo ≤ x → hi < x → n ≡ (refuse n unless (within lo hi x) else next)
fail_above lo hi x n next a b = fail (within lo hi x) n next (rw (le-leb lo x a) (lt-leb x hi b))

pub within_true : (lo hi x : ℕ) → within lo hi x ≡ true → (lo ≤ x) × (x ≤ hi)
within_true lo hi x e = go (leb lo x) refl e
  where
    go : (b : Bool) → leb lo x ≡ b → (b && leb x hi) ≡ true → (lo ≤ x) × (x ≤ hi)
    go true l h = (leb-true lo x l, leb-true x hi h)
    go false l h = absurd (false≢true h)

-- one ladder after another: the first refuses, or it passes
pub then_fail : (k next r : ℕ) → r ≡ k → (r ≡ 0 → ⊥) → r ≡ (k then next)
unfolding ◌then◌
then_fail zero next r e ne = absurd (ne e)
then_fail (suc k) next r e ne = e

pub then_pass : (k next r : ℕ) → k ≡ 0 → r ≡ next → r ≡ (k then next)
unfolding ◌then◌
then_pass k next r e q = rw e q

pub then_zero : (k next : ℕ) → (k then next) ≡ 0 → (k ≡ 0) × (next ≡ 0)
unfolding ◌then◌
then_zero zero next e = (refl, e)
then_zero (suc k) next e = absurd (omega arith)

-- the rungs of a ladder, for `search`: each return of a function that climbs one
pub ruleset rungs = (pass_eq, fail_eq, pass_le, fail_le, pass_within, fail_below, fail_above, then_fail, then_pass)

-- a ladder that ends in 0 has passed its first condition, and the rest ends in 0
pub passed : (b : Bool) (n next : ℕ) → (refuse (suc n) unless b else next) ≡ 0 → (b ≡ true) × (next ≡ 0)
unfolding refuse◌unless◌else◌
passed true n next e = (refl, e)
passed false n next e = absurd (omega arith)

-- what is said, and what stands afterwards, by the ladder's number
pub say_refused : {A : Type 0} (n m : ℕ) (a : A) → n ≡ m → (n ≡ 0 → ⊥) → refused n ≡ say m a
unfolding say
say_refused zero m a e ne = absurd (ne refl)
say_refused (suc n) m a e ne = ap (λ (k : ℕ). say k a) e

pub say_answered : {A : Type 0} (m : ℕ) (a b : A) → m ≡ 0 → b ≡ a → answered b ≡ say m a
unfolding say
say_answered {A} m a b e q = ap answered q ∙ ap (λ (k : ℕ). say k a) (sym e)

-- and back: an answer was said on 0, a refusal on its number
pub answer_said : {A : Type 0} (m : ℕ) (a b : A) → answered b ≡ say m a → (m ≡ 0) × (b ≡ a)
unfolding say
answer_said zero a b e = (refl, cc)
answer_said (suc m) a b e = let z : ◌≡◌ {A = ℕ} 0 1 = cc in absurd (omega arith)

pub refusal_said : {A : Type 0} (n m : ℕ) (a : A) → refused n ≡ say m a → (n ≡ m) × (m ≡ 0 → ⊥)
unfolding say
refusal_said n zero a e = let z : ◌≡◌ {A = ℕ} 0 1 = cc in absurd (omega arith)
refusal_said n (suc m) a e = (cc, λ z. omega arith)

pub after_refused : {A : Type 0} (n m : ℕ) (new old : A) → n ≡ m → (n ≡ 0 → ⊥) → old ≡ after m new old
unfolding after
after_refused zero m new old e ne = absurd (ne refl)
after_refused (suc n) m new old e ne = ap (λ (k : ℕ). after k new old) e

pub after_done : {A : Type 0} (m : ℕ) (new old x : A) → m ≡ 0 → x ≡ new → x ≡ after m new old
unfolding after
after_done m new old x e q = q ∙ ap (λ (k : ℕ). after k new old) (sym e)

pub number_say : {A : Type 0} (n : ℕ) (a : A) → refusal_in (say n a) ≡ n
unfolding say
number_say zero a = refl
number_say (suc n) a = refl
