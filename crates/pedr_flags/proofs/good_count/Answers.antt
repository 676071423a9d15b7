-- The mask leaves bits 0 to 19, and the ones of those are the bits that are set.
use mathlib.Core.Path.{ap, ◌∙◌}
use lib.Bits.{and_mask}
use lib.Count.{ones}
use Rattle.numbers.proofs.Bits.{ones_bits}
use Rattle.pedr_flags.proofs.good_count.Goals as goal

pub returns : goal.returns
returns c = ap ones (and_mask c.args.number 20) ∙ ones_bits c.args.number 20
