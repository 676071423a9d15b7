-- Every call keeps what `Kept` says.
use Rattle.reorder_laws.proofs.Kept.{calls_keep}
use Rattle.reorder_laws.proofs.calls_keep.Goals as goal

pub returns : goal.returns
returns c = calls_keep
