-- The digest stays below 65,521.
use Rattle.std.proofs.Common.{◌≤◌}
use Rattle.packet_vectors.proofs.show.digest.Given as goal

abbrev pub invariant-loop-byte : goal.invariant-loop-byte
invariant-loop-byte l = l.made ≤ 65520
