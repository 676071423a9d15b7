-- What the serve promises is a step.
use Rattle.reorder_session.specs.Session.{single}
use Rattle.reorder_histories.proofs.Made.{serve_step}
use Rattle.reorder_c_steps.proofs.serve_step.Goals as goal

pub returns : goal.returns
returns c =
    let e = c.serve.ensures in
    (e, serve_step single e.0)
