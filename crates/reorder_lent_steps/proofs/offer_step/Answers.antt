-- What the offer promises is a step.
use Rattle.reorder_session.specs.Session.{single}
use Rattle.reorder_histories.proofs.Made.{offer_step}
use Rattle.reorder_lent_steps.proofs.offer_step.Goals as goal

pub returns : goal.returns
returns c =
    let e = c.offer.ensures in
    (e, offer_step single _ e)
