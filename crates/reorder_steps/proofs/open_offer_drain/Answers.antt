-- The promises of the three calls, one after another.
use Rattle.reorder_steps.proofs.Steps.{short}
use Rattle.reorder_steps.proofs.open_offer_drain.Goals as goal

pub returns : goal.returns
returns c =
    let d = c.drain.ensures in
    let f = c.offer-offered.ensures in
    let o = c.open-opened.ensures in
    (short _ _ _ _ _ _ o f d.0, d.1)
