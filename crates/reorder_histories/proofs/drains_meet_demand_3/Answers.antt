-- Drains of 32 meet what demand 3 supposes.
use Rattle.reorder_histories.proofs.Waiting.{drains_meet_demand_3}
use Rattle.reorder_histories.proofs.drains_meet_demand_3.Goals as goal

pub returns : goal.returns
returns c = drains_meet_demand_3
