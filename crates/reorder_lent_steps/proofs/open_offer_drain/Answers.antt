-- The promises of the three calls, one after another.
use Rattle.reorder_steps.proofs.Steps.{from_none, short}
use Rattle.reorder_lent_steps.proofs.open_offer_drain.Goals as goal

pub returns : goal.returns
returns c =
    let d = c.drain.ensures in
    let f = c.offer-offered.ensures in
    (short _ _ _ _ _ _ (from_none _ _ _ _ c.no_session.ensures c.open-opened.ensures) f d.0, d.1)
