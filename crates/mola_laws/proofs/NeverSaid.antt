-- Ladders of refusals that never give a number: no rung has it, or the rung that has it is passed.
use Prim.Native.Nat.{ℕ, zero, suc}
use mathlib.Core.Path.{◌≡◌}
use mathlib.Core.Bool.{Bool, true, false}
use Rattle.octets.specs.Refusal.{refuse◌unless◌else◌, ◌then◌}

pub never : (b : Bool) (k next n : ℕ) → (k ≡ n → ⊥) → (next ≡ n → ⊥) → (refuse k unless b else next) ≡ n → ⊥
unfolding refuse◌unless◌else◌
never true k next n other later e = later e
never false k next n other later e = other e

pub never_passed : (b : Bool) (k next n : ℕ) → b ≡ true → (next ≡ n → ⊥) → (refuse k unless b else next) ≡ n → ⊥
unfolding refuse◌unless◌else◌
never_passed b k next n p later e = later (rw p at e)

pub never_then : (k next n : ℕ) → (k ≡ n → ⊥) → (next ≡ n → ⊥) → (k then next) ≡ n → ⊥
unfolding ◌then◌
never_then zero next n first later e = later e
never_then (suc k) next n first later e = first e
