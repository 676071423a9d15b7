-- The theorem on the chunks.
use Rattle.aedr.proofs.Whole.{chunks_whole}
use Rattle.aedr.proofs.chunks_print_the_whole.Goals as goal

pub returns : goal.returns
returns c = chunks_whole
