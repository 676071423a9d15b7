-- The answers so far, and what they leave, are the loop's invariant.
use Rattle.reorder_serve.proofs.Running.{Running}
use Rattle.reorder_serve.proofs.run.Given as goal

abbrev pub invariant-loop-i : goal.invariant-loop-i
invariant-loop-i g l =
    Running g.S.Places.stored l.budget l.store l.initial.out l.initial.now l.initial.places l.out l.now l.places l.i
