-- A drain is as many serves.
use Rattle.reorder_laws.proofs.Drains.{drains_are_serves}
use Rattle.reorder_laws.proofs.drains_are_serves.Goals as goal

pub returns : goal.returns
returns c = drains_are_serves
