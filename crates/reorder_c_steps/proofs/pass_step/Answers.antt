-- What the pass promises is a step.
use Rattle.reorder_session.specs.Session.{single}
use Rattle.reorder_histories.proofs.Made.{pass_step}
use Rattle.reorder_c_steps.proofs.pass_step.Goals as goal

pub returns : goal.returns
returns c =
    let e = c.pass.ensures in
    (e, pass_step single e.0)
