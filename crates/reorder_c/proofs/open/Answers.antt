-- What `open_or` promises, of the numbers.
use Rattle.reorder_offer.proofs.Opening.{open_numbered}
use Rattle.reorder_c_answers.proofs.Told.{held_told}
use Rattle.reorder_c.proofs.open.Goals as goal

pub returns : goal.returns
returns c =
    let o = c.open_or-opened in
    held_told _ _ (open_numbered _ _ _ _ _) o.ensures c.held_answer.ensures
