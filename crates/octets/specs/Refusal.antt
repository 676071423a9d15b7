-- Refusals. Document 01, "Refusal numbers": each returns its number and no field, and writes nothing; a number is given exactly on its
-- condition, the first in the order.
use Rattle.std.specs.Prelude.{ℕ, zero, suc, leb, Bool, true, false, ◌&&◌}

-- the number n where the condition fails, else what the later conditions give; a ladder ends in 0, which refuses nothing
infixr 3 refuse◌unless◌else◌
unfoldable pub refuse◌unless◌else◌ : ℕ → Bool → ℕ → ℕ
refuse n unless true else next = next
refuse n unless false else next = n

-- a ladder, and where it refuses nothing the next
infixr 3 ◌then◌
unfoldable pub ◌then◌ : ℕ → ℕ → ℕ
zero then next = next
suc n then next = suc n

-- x lies from lo to hi
abbrev pub within : ℕ → ℕ → ℕ → Bool
within lo hi x = leb lo x && leb x hi

-- what an entry says: a refusal's number, or its answer
pub data Said (A : Type 0) : Type 0 where
  refused : ℕ → Said A
  answered : A → Said A

-- what is said by a ladder's number
unfoldable pub say : {A : Type 0} → ℕ → A → Said A
say zero a = answered a
say (suc n) a = refused (suc n)

-- what stands afterwards, by a ladder's number: what the work leaves, or what stood before
unfoldable pub after : {A : Type 0} → ℕ → A → A → A
after zero new old = new
after (suc n) new old = old

-- the refusal's number in what is said, 0 for an answer
abbrev pub refusal_in : {A : Type 0} → Said A → ℕ
refusal_in (refused n) = n
refusal_in (answered a) = 0
