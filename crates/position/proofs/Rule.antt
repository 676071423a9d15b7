-- `position` is document 01's rule: of the integers right by the count only the greatest that is not too late by the clock can fit, and that
-- one is tried.
use Prim.Native.Nat.{ℕ, ◌*◌, ◌/◌, ◌%◌, ◌<◌, ◌≤◌}
use mathlib.Core.Path.{◌≡◌, refl, sym, ◌∙◌, subst}
use mathlib.Core.Logic.{◌↔◌, ◌⊎◌, inl, inr}
use mathlib.Core.Bool.{Bool, true, false}
use native.Mathlib.Omega.{arith}
use borrow.Author.Tests.{leb-true, le-leb}
use lib.Dec.{leb, lit<}
use lib.IntN.{ℤ, pos, negsuc, nat_abs, ◌+ℤ◌, ◌-ℤ◌, ◌*ℤ◌}
use lib.Signed.{shr_z}
use Rattle.numbers.proofs.Integers.{up, down, plus, minus, up_times, down_times, abs_sum, floor_le, floor_lt, ints}
use Rattle.octets.specs.Refusal.{refuse◌unless◌else◌, refused, answered}
use Rattle.octets.proofs.Ladder.{pass, fail, passed, say_refused, say_answered, answer_said, refusal_said}
use Rattle.position.specs.declared.Anchor.{Anchor}
use Rattle.position.specs.Position.{IsPosition, latest, fitting, position}
use Rattle.position.specs.Rule.{IsPositionOf, Rule}

-- both sides of a multiple of 16,384 are multiples
up_multiple : (x : ℤ) → nat_abs x % 16384 ≡ 0 → up x ≡ 16384 * (up x / 16384)
up_multiple (pos n) h = omega arith
up_multiple (negsuc n) h = refl

down_multiple : (x : ℤ) → nat_abs x % 16384 ≡ 0 → down x ≡ 16384 * (down x / 16384)
down_multiple (pos n) h = refl
down_multiple (negsuc n) h = omega arith

module _ (counted elapsed : ℤ) (tolerance : ℕ) where
  -- the integer that is tried
  abbrev tried : ℤ
  tried = latest counted elapsed tolerance

  -- what its rounds are counted from: the latest time allowed, less that of the counts
  abbrev room : ℤ
  room = elapsed +ℤ pos tolerance -ℤ pos 14 *ℤ counted

  -- whether its clock is near enough, and the number by which it is refused
  abbrev near : Bool
  near = leb (nat_abs (pos 14 *ℤ tried -ℤ elapsed)) tolerance

  abbrev number : ℕ
  number = refuse 21 unless near else 0

  -- it fits by its count
  tried_by_count : nat_abs (tried -ℤ counted) % 16384 ≡ 0
  tried_by_count =
      let rounds = shr_z room 229376 in
      let e : tried -ℤ counted ≡ pos 16384 *ℤ rounds = omega (ints, minus tried counted, plus counted (pos 16384 *ℤ rounds)) in
      rw e (omega (arith, abs_sum (pos 16384 *ℤ rounds), up_times 16384 rounds, down_times 16384 rounds))

  -- what fits is the integer that is tried
  is_tried : 2 * tolerance < 229376 → (p : ℤ) → IsPosition counted elapsed tolerance p → p ≡ tried
  is_tried small p h =
      let rounds = shr_z room 229376 in
      omega (
        ints,
        minus p counted,
        up_multiple (p -ℤ counted) h.by_count,
        down_multiple (p -ℤ counted) h.by_count,
        minus (pos 14 *ℤ p) elapsed,
        up_times 14 p,
        down_times 14 p,
        abs_sum (pos 14 *ℤ p -ℤ elapsed),
        h.by_clock,
        plus counted (pos 16384 *ℤ rounds),
        up_times 16384 rounds,
        down_times 16384 rounds,
        floor_le 229376 room (lit< tt),
        floor_lt 229376 room (lit< tt),
        minus (elapsed +ℤ pos tolerance) (pos 14 *ℤ counted),
        plus elapsed (pos tolerance),
        up_times 14 counted,
        down_times 14 counted,
      )

  tried_fits : near ≡ true → IsPosition counted elapsed tolerance tried
  tried_fits e = record { by_count = tried_by_count; by_clock = leb-true _ _ e }

  -- what is answered fits, at any tolerance
  pub sound : (p : ℤ) → fitting counted elapsed tolerance ≡ answered p → IsPosition counted elapsed tolerance p
  sound p h =
      let said = answer_said number tried p (sym h) in
      subst (IsPosition counted elapsed tolerance) (sym said.1) (tried_fits (passed near 20 0 said.0).0)

  -- what fits is answered
  pub complete : 2 * tolerance < 229376 → (p : ℤ) → IsPosition counted elapsed tolerance p → fitting counted elapsed tolerance ≡ answered p
  complete small p h =
      let e : p ≡ tried = is_tried small p h in
      let close : nat_abs (pos 14 *ℤ tried -ℤ elapsed) ≤ tolerance = subst (λ (x : ℤ). nat_abs (pos 14 *ℤ x -ℤ elapsed) ≤ tolerance) e h.by_clock in
      sym (say_answered number tried p (sym (pass near 21 0 0 (le-leb _ _ close) refl)) e)

  -- so at most one fits
  pub unique : 2 * tolerance < 229376 → (p q : ℤ) → IsPosition counted elapsed tolerance p → IsPosition counted elapsed tolerance q → p ≡ q
  unique small p q h k = is_tried small p h ∙ sym (is_tried small q k)

  -- it is answered, or 21
  decided : (b : Bool) → near ≡ b → (fitting counted elapsed tolerance ≡ answered tried) ⊎ (fitting counted elapsed tolerance ≡ refused 21)
  decided true e = inl (sym (say_answered number tried tried (sym (pass near 21 0 0 e refl)) refl))
  decided false e = inr (sym (say_refused 21 number tried (fail near 21 0 e) (λ z. omega arith)))

  -- 21 where nothing fits, and only there
  pub none : 2 * tolerance < 229376 → (fitting counted elapsed tolerance ≡ refused 21) ↔ ((p : ℤ) → IsPosition counted elapsed tolerance p → ⊥)
  none small = (to, λ f. from f (decided near refl))
    where
      to : fitting counted elapsed tolerance ≡ refused 21 → (p : ℤ) → IsPosition counted elapsed tolerance p → ⊥
      to h p k = (refusal_said 21 number tried (sym h)).1 (answer_said number tried p (sym (complete small p k))).0

      from :
          ((p : ℤ) → IsPosition counted elapsed tolerance p → ⊥)
          → (fitting counted elapsed tolerance ≡ answered tried) ⊎ (fitting counted elapsed tolerance ≡ refused 21)
          → fitting counted elapsed tolerance ≡ refused 21
      from f (inl e) = absurd (f tried (sound tried e))
      from f (inr e) = e

-- count and time of a packet, against the anchor's
module _ (anchor : Anchor) (c t tolerance : ℕ) where
  abbrev counts_apart : ℤ
  counts_apart = pos c -ℤ pos anchor.count

  abbrev times_apart : ℤ
  times_apart = pos t -ℤ pos anchor.time

  -- the rule, below the tolerance where two could fit
  module _ (small : 2 * tolerance < 229376) where
    pub the_position : (p : ℤ) → (position anchor c t tolerance ≡ answered p) ↔ IsPositionOf anchor c t tolerance p
    unfolding position
    the_position p = (sound counts_apart times_apart tolerance p, complete counts_apart times_apart tolerance small p)

    pub no_position : (position anchor c t tolerance ≡ refused 21) ↔ ((p : ℤ) → IsPositionOf anchor c t tolerance p → ⊥)
    unfolding position
    no_position = none counts_apart times_apart tolerance small

    pub at_most_one : (p q : ℤ) → IsPositionOf anchor c t tolerance p → IsPositionOf anchor c t tolerance q → p ≡ q
    at_most_one = unique counts_apart times_apart tolerance small

pub rule : Rule
rule =
    record {
      the_position = λ anchor c t tolerance h. the_position anchor c t tolerance (omega arith);
      no_position = λ anchor c t tolerance h. no_position anchor c t tolerance (omega arith);
      at_most_one = λ anchor c t tolerance h. at_most_one anchor c t tolerance (omega arith);
    }

-- the anchor's own count and time have position 0
none_apart : (n : ℕ) → pos n -ℤ pos n ≡ pos 0
none_apart n = omega (ints, minus (pos n) (pos n))

pub anchored : (a : Anchor) (tolerance : ℕ) → 2 * tolerance < 229376 → position a a.count a.time tolerance ≡ answered (pos 0)
unfolding position
anchored a tolerance small =
    rw (none_apart a.count, none_apart a.time)
    (complete (pos 0) (pos 0) tolerance small (pos 0) (record { by_count = refl; by_clock = omega arith }))
