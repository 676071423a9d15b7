-- One law of loops that fill a list.
use lib.ListN.{get_or}
use Rattle.octets.proofs.Fill.{Filled}
use Rattle.octets.proofs.copy.Given as goal

abbrev pub invariant-loop-k : goal.invariant-loop-k
invariant-loop-k l = Filled (λ j. get_or l.bytes j 0) l.initial.out l.out l.k
