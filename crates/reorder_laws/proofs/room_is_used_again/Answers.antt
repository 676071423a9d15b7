-- Freed room is used again.
use Rattle.reorder_laws.proofs.Again.{room_is_used_again}
use Rattle.reorder_laws.proofs.room_is_used_again.Goals as goal

pub returns : goal.returns
returns c = room_is_used_again
