-- The law for each call.
use Rattle.reorder_rules.proofs.Numbered.{offer_numbered, serve_numbered, drain_numbered, pass_numbered}
use Rattle.reorder_session.specs.Session.{single}
use Rattle.reorder_offer.proofs.Opening.{open_numbered}
use Rattle.reorder_laws.proofs.refusals_have_numbers.Goals as goal

pub returns : goal.returns
returns c =
    record {
      opens = open_numbered;
      offers = offer_numbered single;
      serves = serve_numbered single;
      drains = drain_numbered single;
      passes = pass_numbered single;
    }
