-- What the drain promises is a step.
use Rattle.reorder_session.specs.Session.{single}
use Rattle.reorder_histories.proofs.Made.{drain_step}
use Rattle.reorder_lent_steps.proofs.drain_step.Goals as goal

pub returns : goal.returns
returns c =
    let e = c.drain.ensures in
    (e, drain_step single e.0)
