-- What `offer` promises, of the numbers.
use Rattle.reorder_session.specs.Session.{single}
use Rattle.reorder_rules.proofs.Numbered.{offer_numbered}
use Rattle.reorder_c_answers.proofs.Told.{held_told}
use Rattle.reorder_c.proofs.offer.Goals as goal

pub returns : goal.returns
returns c =
    let o = c.offer-offered in
    held_told _ _ (offer_numbered single _ _ _) o.ensures c.held_answer.ensures
