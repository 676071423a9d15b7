-- Demand 3.
use Rattle.reorder_histories.proofs.Theorem.{higher_threshold_loses_nothing}
use Rattle.reorder_histories.proofs.higher_threshold_loses_nothing.Goals as goal

pub returns : goal.returns
returns c = higher_threshold_loses_nothing
