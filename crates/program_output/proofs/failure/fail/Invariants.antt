-- Each part leaves what stood before it.
use Rattle.program_output.specs.Written.{Grows}
use Rattle.program_output.proofs.failure.fail.Given as goal

abbrev pub invariant-loop-part : goal.invariant-loop-part
invariant-loop-part g l = Grows (g.E.Write.contents l.initial.errors) (g.E.Write.contents l.errors)
