-- The law of loops that fill a list, at the numbers of a run.
use Rattle.octets_runs.proofs.Numbers.{Reading}
use Rattle.octets_runs.proofs.read_run_within.Given as goal

abbrev pub invariant-loop-k : goal.invariant-loop-k
invariant-loop-k g l = Reading g.W.Word.at g.W.Word.WIDTH l.bytes l.i l.initial.out l.out l.k
