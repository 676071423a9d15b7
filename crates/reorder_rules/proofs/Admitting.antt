-- Where a packet with a position goes: each outcome of the tests, in their order.
use Prim.Native.Nat.{ℕ, ◌+◌, ◌-◌, ◌<◌, ◌≤◌}
use mathlib.Core.Path.{◌≡◌, refl, sym, ap, ◌∙◌}
use mathlib.Core.Bool.{Bool, true, false, not}
use native.Mathlib.Omega.{arith}
use borrow.Author.Tests.{le-leb, lt-leb}
use lib.Dec.{T, leb}
use lib.IntN.{ℤ, pos, negsuc, nat_abs}
use lib.Signed.{le_z, lt_z, non_neg}
use mir.Syntax.{w32}
use mir.Val.{Fits}
use Rattle.numbers.proofs.Integers.{ints}
use Rattle.octets.specs.Refusal.{refused, answered}
use Rattle.octets.proofs.Ladder.{pass, fail, say_refused, say_answered}
use Rattle.reorder_rules.specs.Offer.{position_refusal, admitted}

-- a position from next on, and at most 999,999, is a number
number : (n : ℕ) (z : ℤ) → lt_z (pos 999999) z ≡ false → lt_z z (pos n) ≡ false → (z ≡ pos (nat_abs z)) × ((n ≤ nat_abs z) × (nat_abs z ≤ 999999))
number n (pos m) top low = (refl, (omega ints, omega ints))
number n (negsuc m) top low = absurd (omega ints)

castable : (z : ℤ) → z ≡ pos (nat_abs z) → nat_abs z ≤ 999999 → T (non_neg z) × Fits w32 (nat_abs z)
castable (pos m) e h = (tt, omega arith)
castable (negsuc m) e h = absurd (omega (ints, e))

module _ (start : ℕ) (held : ℕ → Bool) (z : ℤ) where
  pub beyond : lt_z (pos 999999) z ≡ true → refused 22 ≡ admitted start held (answered z)
  unfolding admitted position_refusal
  beyond h =
      let e : le_z z (pos 999999) ≡ false = omega ints in
      say_refused 22 _ _ (fail (le_z z (pos 999999)) 22 _ e) (λ q. omega arith)

  module _ (top : lt_z (pos 999999) z ≡ false) where
    served : le_z z (pos 999999) ≡ true
    served = omega ints

    pub below : lt_z z (pos start) ≡ true → refused 23 ≡ admitted start held (answered z)
    unfolding admitted position_refusal
    below h =
        let e : le_z (pos start) z ≡ false = omega ints in
        say_refused 23 _ _ (pass _ 22 _ 23 served (fail (le_z (pos start) z) 23 _ e)) (λ q. omega arith)

    module _ (low : lt_z z (pos start) ≡ false) where
      reached : le_z (pos start) z ≡ true
      reached = omega ints

      pub fits_u32 : T (non_neg z) × Fits w32 (nat_abs z)
      fits_u32 = let n = number start z top low in castable z n.0 n.1.1

      pub from_next : start ≤ nat_abs z
      from_next = (number start z top low).1.0

      within_window : le_z z (pos (start + 31)) ≡ leb (nat_abs z) (start + 31)
      within_window = ap (λ (x : ℤ). le_z x (pos (start + 31))) (number start z top low).0

      pub taken : held (nat_abs z) ≡ true → refused 24 ≡ admitted start held (answered z)
      unfolding admitted position_refusal
      taken h =
          say_refused 24 _ _ (pass _ 22 _ 24 served (pass _ 23 _ 24 reached (fail (not (held (nat_abs z))) 24 _ (ap not h)))) (λ q. omega arith)

      module _ (free : held (nat_abs z) ≡ false) where
        pub ahead : 31 < nat_abs z - start → refused 25 ≡ admitted start held (answered z)
        unfolding admitted position_refusal
        ahead h =
            say_refused 25 _ _
            (pass _ 22 _ 25 served
            (pass _ 23 _ 25 reached
            (pass _ 24 _ 25 (ap not free) (fail _ 25 0 (within_window ∙ lt-leb (nat_abs z) (start + 31) (omega arith))))))
            (λ q. omega arith)

        pub fits : nat_abs z - start ≤ 31 → answered (nat_abs z) ≡ admitted start held (answered z)
        unfolding admitted position_refusal
        fits h =
            say_answered _ _ _
            (sym
            (pass _ 22 _ 0 served
            (pass _ 23 _ 0 reached
            (pass _ 24 _ 0 (ap not free) (pass _ 25 0 0 (within_window ∙ le-leb (nat_abs z) (start + 31) (omega arith)) refl)))))
            refl
