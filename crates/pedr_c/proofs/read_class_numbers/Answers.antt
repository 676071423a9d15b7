-- The numbers of the classes are their column.
use mathlib.Core.Path.{◌∙◌}
use Rattle.pedr_c.proofs.Classes.{column_numbers}
use Rattle.pedr_c.proofs.read_class_numbers.Goals as goal

pub returns : goal.returns
returns c = c.run.ensures ∙ column_numbers c.args.bytes.now
