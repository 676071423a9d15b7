-- From demand 3, by `Made`.
use Rattle.reorder_histories.proofs.Theorem.{higher_threshold_loses_nothing}
use Rattle.reorder_histories.proofs.Made as Made
use Rattle.reorder_histories.proofs.histories_lose_nothing.Goals as goal

pub returns : goal.returns
returns c = Made.histories_lose_nothing higher_threshold_loses_nothing
