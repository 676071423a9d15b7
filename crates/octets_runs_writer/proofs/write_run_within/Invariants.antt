-- The law of loops that store numbers.
use Rattle.octets_runs_writer.proofs.Writing.{Writing}
use Rattle.octets_runs_writer.proofs.write_run_within.Given as goal

abbrev pub invariant-loop-k : goal.invariant-loop-k
invariant-loop-k g l = Writing g.W.Word.run_octets l.numbers l.i l.initial.out l.out l.k
