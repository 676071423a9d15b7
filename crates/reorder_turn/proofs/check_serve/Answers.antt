-- What refuses the store is handed on; the other returns are found from the tests.
use mathlib.Core.Path.{◌≡◌}
use Rattle.refusal.specs.Number.{number}
use Rattle.reorder_session.specs.Session.{store_refusal}
use Rattle.reorder_session.proofs.Store.{store_handed_on}
use Rattle.reorder_rules.specs.Serve.{serve_refusal}
use Rattle.reorder_turn.proofs.check_serve.Goals as goal

pub returns-in_err-check_store : goal.returns-in_err-check_store
unfolding serve_refusal
returns-in_err-check_store c =
    let q : number c.in_err-check_store.field-0.0 ≡ store_refusal c.args.session c.args.store_size = c.in_err-check_store.ensures in
    store_handed_on _ _ _ _ _ c.from_residual.ensures q
