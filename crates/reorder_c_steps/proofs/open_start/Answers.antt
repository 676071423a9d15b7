-- What the opening promises is a start.
use Rattle.reorder_histories.proofs.Made.{open_start}
use Rattle.reorder_c_steps.proofs.open_start.Goals as goal

pub returns : goal.returns
returns c =
    let e = c.before.before.before.«open».ensures in
    (e, open_start _ _ e.0)
