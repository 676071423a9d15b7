-- Request 1, "Precision records written": classes and encoder parts that can be written.
use Rattle.std.specs.Prelude.{◌^◌, Bool, true, ◌&&◌, ltb}
use Rattle.pedr_flags.specs.declared.Class.{Class}
use Rattle.pedr_flags.specs.declared.Class.TheVariants.{NoTrigger, ProbableGround, Unassigned}
use Rattle.pedr_flags.specs.declared.Encoder.{Encoder}

-- unassigned is no name for the numbers 0 and 1, since those have names
abbrev pub is_proper : Class → Bool
is_proper NoTrigger = true
is_proper ProbableGround = true
is_proper (Unassigned n) = ltb 1 n

-- each part of an encoder byte has two bits
abbrev pub has_two_bits : Encoder → Bool
has_two_bits e = (ltb e.start (2 ^ 2) && ltb e.carried_low (2 ^ 2)) && (ltb e.stop (2 ^ 2) && ltb e.carried_high (2 ^ 2))
