-- The rule, as it is proved of `position`.
use Rattle.position.proofs.Rule.{rule}
use Rattle.position.proofs.position_rule.Goals as goal

pub returns : goal.returns
returns c = rule
