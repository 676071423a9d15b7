-- The law of loops that fill a list, at the numbers of a run: what is left to read are the bytes from the next number on.
use Rattle.std.proofs.Common.{◌≡◌, ◌+◌, ◌*◌, drop}
use Rattle.octets_runs.proofs.Numbers.{Reading}
use Rattle.octets_runs.proofs.read_run_past.Given as goal

abbrev pub invariant-loop-number : goal.invariant-loop-number
invariant-loop-number g l = (l.rest ≡ drop (l.i + g.W.Word.WIDTH * l.number-index) l.bytes) × Reading g.W.Word.at g.W.Word.WIDTH l.bytes l.i l.initial.out l.out l.number-index
