-- The chain of the tests.
use mathlib.Core.Path.{◌∙◌}
use Rattle.std.proofs.Common.{rules}
use Rattle.std.proofs.lemmas.Iterator.{YieldsList-from_slice}
use Rattle.std.proofs.lemmas.Iterator.Search.{all_from_yields_List}
use Rattle.pedr_codes.specs.Codes.{is_proper}
use Rattle.pedr_codes.proofs.Each.{each_list}
use Rattle.pedr_codes.proofs.are_proper.Goals as goal

pub returns : goal.returns
returns c =
    all_from_yields_List is_proper _ _ _ c.all.ensures.ran (YieldsList-from_slice c.args.classes.now cc) (λ x b q k. search rules)
    ∙ each_list is_proper c.args.classes.now
