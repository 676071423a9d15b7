-- Each return is one rung of the ladder.
use mathlib.Core.Path.{◌≡◌, sym}
use Rattle.octets.proofs.Ladder.{rungs}
use Rattle.refusal.specs.Number.{number}
use Rattle.reorder_session.specs.Session.{store_refusal}
use Rattle.reorder_session.proofs.Store.{store_pass, store_handed_on}
use Rattle.reorder_rules.specs.Serve.{drain_refusal}
use Rattle.reorder_turn.proofs.check_drain.Goals as goal

pub returns-in_err-check_store : goal.returns-in_err-check_store
unfolding drain_refusal
returns-in_err-check_store c =
    let q : number c.in_err-check_store.field-0.0 ≡ store_refusal c.args.session c.args.store_size = c.in_err-check_store.ensures in
    store_handed_on _ _ _ _ _ c.from_residual.ensures q

pub returns-then-out_size-ne-STORE_SIZE : goal.returns-then-out_size-ne-STORE_SIZE
unfolding drain_refusal
returns-then-out_size-ne-STORE_SIZE c =
    let z : 0 ≡ store_refusal c.args.session c.args.store_size = c.in_ok-check_store.ensures in
    store_pass _ _ _ 29 (sym z) (search rungs depth 10)

pub returns-then-budget-gt-POSITIONS : goal.returns-then-budget-gt-POSITIONS
unfolding drain_refusal
returns-then-budget-gt-POSITIONS c =
    let z : 0 ≡ store_refusal c.args.session c.args.store_size = c.in_ok-check_store.ensures in
    store_pass _ _ _ 31 (sym z) (search rungs depth 10)

pub returns : goal.returns
unfolding drain_refusal
returns c =
    let z : 0 ≡ store_refusal c.args.session c.args.store_size = c.in_ok-check_store.ensures in
    store_pass _ _ _ 0 (sym z) (search rungs depth 10)
