-- The layouts pass the test, and what passes it covers the block.
use Rattle.pedr_layout.specs.Block.{frame_layout}
use Rattle.pedr_layout.proofs.Block.{all_tile, frame_tiles, covers_block}
use Rattle.pedr_layout.proofs.block_covers.Goals as goal

pub returns : goal.returns
returns c = (all_tile, λ n l h. covers_block (frame_layout n) (frame_tiles n l h))
