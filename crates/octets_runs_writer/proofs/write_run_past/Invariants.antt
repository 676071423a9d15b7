-- The law of loops that store numbers; the index stays at the largest.
use Rattle.std.proofs.Common.{◌≡◌, ◌+◌, ◌-◌, ◌*◌, ◌^◌, min}
use Rattle.octets_runs_writer.proofs.Writing.{Writing}
use Rattle.octets_runs_writer.proofs.write_run_past.Given as goal

abbrev pub invariant-loop-number : goal.invariant-loop-number
invariant-loop-number g l = (l.at ≡ min (l.i + g.W.Word.WIDTH * l.number-index) (2 ^ 64 - 1)) × Writing g.W.Word.run_octets l.numbers l.i l.initial.out l.out l.number-index
