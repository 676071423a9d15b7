-- Document 01, "PEDR record": class 0 is false or no trigger, 1 probable ground; other numbers are unassigned and carried with their number.
use Rattle.std.specs.Prelude.{ℕ, cond, eqb}
use Rattle.pedr_flags.specs.declared.Class.{Class}
use Rattle.pedr_flags.specs.declared.Class.TheVariants.{NoTrigger, ProbableGround, Unassigned}

abbrev pub class_of : ℕ → Class
class_of n = cond (eqb n 0) NoTrigger (cond (eqb n 1) ProbableGround (Unassigned n))

-- the number of each case
abbrev pub class_number : Class → ℕ
class_number NoTrigger = 0
class_number ProbableGround = 1
class_number (Unassigned n) = n
