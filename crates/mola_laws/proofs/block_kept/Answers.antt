use Rattle.pedr_block_c.proofs.Back.{numbers_kept}
use Rattle.mola_laws.proofs.block_kept.Goals as goal

pub returns : goal.returns
returns c = numbers_kept
