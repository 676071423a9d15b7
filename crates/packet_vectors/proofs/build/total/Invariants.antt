-- Each word adds at most 65,535.
use Rattle.std.proofs.Common.{◌*◌, ◌≤◌}
use Rattle.packet_vectors.proofs.build.total.Given as goal

abbrev pub invariant-loop-w : goal.invariant-loop-w
invariant-loop-w l = l.sum ≤ 65535 * l.w
