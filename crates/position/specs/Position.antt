-- Document 01, "The rack": the position of count c and time t is the integer p for which p - (c - c0) is a multiple of 16,384 and 14p
-- differs from t - t0 by at most 3,600 either way, where c0 and t0 are the anchor's.
use Rattle.std.specs.Prelude.{ℕ, ◌%◌, ◌≤◌, ◌≡◌, Option, Some, None, leb, ℤ, pos, nat_abs, ◌+ℤ◌, ◌-ℤ◌, ◌*ℤ◌}
use Rattle.std.specs.Int.Signed.{shr_z}
use Rattle.octets.specs.Refusal.{refuse◌unless◌else◌, Said, refused, answered, say}
use Rattle.position.specs.declared.Anchor.{Anchor}

-- "at most 3,600 either way"
abbrev pub published_tolerance : ℕ
published_tolerance = 3600

-- The rule as it is written; `counted` is c - c0, `elapsed` is t - t0, integers of either sign.
pub record IsPosition (counted elapsed : ℤ) (tolerance : ℕ) (p : ℤ) : Type 0 where
  pub by_count : nat_abs (p -ℤ counted) % 16384 ≡ 0
  pub by_clock : nat_abs (pos 14 *ℤ p -ℤ elapsed) ≤ tolerance

-- The greatest p with p - counted a multiple of 16,384 and 14p at most elapsed + tolerance: shr_z x m is x / m rounded down, and
-- 229,376 is 14 × 16,384.
abbrev pub latest : ℤ → ℤ → ℕ → ℤ
latest counted elapsed tolerance = counted +ℤ pos 16384 *ℤ shr_z (elapsed +ℤ pos tolerance -ℤ pos 14 *ℤ counted) 229376

-- That p where its clock is near enough; 21: no position fits. `Rule` says that this is the rule.
abbrev pub fitting : ℤ → ℤ → ℕ → Said ℤ
fitting counted elapsed tolerance =
    say
    (refuse 21 unless leb (nat_abs (pos 14 *ℤ latest counted elapsed tolerance -ℤ elapsed)) tolerance else 0)
    (latest counted elapsed tolerance)

unfoldable pub position : Anchor → ℕ → ℕ → ℕ → Said ℤ
position anchor c t tolerance = fitting (pos c -ℤ pos anchor.count) (pos t -ℤ pos anchor.time) tolerance

-- the position, or the number where there is none
abbrev pub position_said : Option ℤ → Said ℤ
position_said (Some p) = answered p
position_said None = refused 21
