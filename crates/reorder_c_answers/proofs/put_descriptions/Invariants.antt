-- Two numbers a description; a store is a put of one number, and all together are the 64.
use Rattle.reorder_c_answers.proofs.Listed.{Stored}
use Rattle.reorder_c_answers.proofs.put_descriptions.Given as goal

abbrev pub invariant-loop-i : goal.invariant-loop-i
invariant-loop-i l = Stored l.description-items l.initial.numbers l.numbers l.i
