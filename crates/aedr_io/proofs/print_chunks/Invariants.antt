-- Each chunk so far had 213 pieces, and its lines were written.
use Rattle.std.proofs.Common.{◌≡◌, ◌-◌, ◌*◌, ◌<◌}
use Rattle.program_io.specs.Next.{chunks_most}
use Rattle.aedr.specs.Chunks.{chunk_pieces}
use Rattle.aedr_io.proofs.Moved.{Moved}
use Rattle.aedr_io.proofs.print_chunks.Given as goal

abbrev pub invariant-loop-last : goal.invariant-loop-last
invariant-loop-last g l = record {
  most : l.full < chunks_most;
  pieces : l.records ≡ chunk_pieces * l.full;
  moved : Moved (g.R.Read.remaining l.initial.input) (g.R.Read.remaining l.input) (g.W.Write.contents l.initial.output) (g.W.Write.contents l.output) l.full;
}

abbrev pub decreases-loop-last : goal.decreases-loop-last
decreases-loop-last g l = chunks_most - l.full
