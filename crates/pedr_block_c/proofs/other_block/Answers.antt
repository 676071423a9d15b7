-- Both cases of the test.
use borrow.Author.Tests.{eq-eqb, ne_eqb}
use Rattle.pedr_block_c.proofs.other_block.Goals as goal

pub returns-then-index-eq1 : goal.returns-then-index-eq1
returns-then-index-eq1 c = simp (eq-eqb _ 1 c.if-index-eq1.true)

pub returns-else-index-eq1 : goal.returns-else-index-eq1
returns-else-index-eq1 c = simp (ne_eqb _ 1 c.if-index-eq1.false)
