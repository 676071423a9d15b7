-- The chain of the tests.
use mathlib.Core.Path.{◌∙◌}
use Rattle.std.proofs.Common.{rules}
use Rattle.std.proofs.lemmas.Iterator.{YieldsList-from_slice}
use Rattle.std.proofs.lemmas.Iterator.Search.{all_from_yields_List}
use Rattle.pedr_codes.specs.Codes.{has_two_bits}
use Rattle.pedr_codes.proofs.Each.{each_list}
use Rattle.pedr_codes.proofs.have_two_bits.Goals as goal

pub returns : goal.returns
returns c =
    all_from_yields_List has_two_bits _ _ _ c.all.ensures.ran (YieldsList-from_slice c.args.encoders.now cc) (λ x b q k. search rules)
    ∙ each_list has_two_bits c.args.encoders.now
