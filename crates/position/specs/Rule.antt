-- Document 01's rule, as sentences about `position`, for any anchor and any tolerance up to 100,000.
use Rattle.std.specs.Prelude.{ℕ, ◌≤◌, ◌≡◌, ◌↔◌, ℤ, pos, ◌-ℤ◌}
use Rattle.octets.specs.Refusal.{refused, answered}
use Rattle.position.specs.declared.Anchor.{Anchor}
use Rattle.position.specs.Position.{IsPosition, position}

-- p fits count c and time t
abbrev pub IsPositionOf : Anchor → ℕ → ℕ → ℕ → ℤ → Type 0
IsPositionOf anchor c t tolerance p = IsPosition (pos c -ℤ pos anchor.count) (pos t -ℤ pos anchor.time) tolerance p

pub record Rule : Type 0 where
  -- "the position of count c and time t is the integer p for which p - (c - c0) is a multiple of 16,384 and 14p differs from t - t0 by at
  -- most 3,600 either way."
  pub the_position :
      (anchor : Anchor) (c t tolerance : ℕ) → tolerance ≤ 100000 → (p : ℤ)
      → (position anchor c t tolerance ≡ answered p) ↔ IsPositionOf anchor c t tolerance p
  -- "21: no position fits"
  pub no_position :
      (anchor : Anchor) (c t tolerance : ℕ) → tolerance ≤ 100000
      → (position anchor c t tolerance ≡ refused 21) ↔ ((p : ℤ) → IsPositionOf anchor c t tolerance p → ⊥)
  -- "There is at most one."
  pub at_most_one :
      (anchor : Anchor) (c t tolerance : ℕ) → tolerance ≤ 100000 → (p q : ℤ)
      → IsPositionOf anchor c t tolerance p → IsPositionOf anchor c t tolerance q → p ≡ q
