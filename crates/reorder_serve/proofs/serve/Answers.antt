-- A refusal leaves everything; else it is one step.
use mathlib.Core.Path.{◌≡◌, refl, sym, ap}
use native.Mathlib.Omega.{arith}
use lib.ListN.{length}
use Rattle.octets.specs.Refusal.{answered}
use Rattle.octets.proofs.Ladder.{say_refused, say_answered}
use Rattle.refusal.proofs.Said.{number_not_0}
use Rattle.reorder_rules.specs.Serve.{serve_of}
use Rattle.reorder_rules.proofs.Said.{stays, leaves, comes_by}
use Rattle.reorder_rules.proofs.Ready.{serve_ready}
use Rattle.reorder_session.specs.Session.{single}
use Rattle.reorder_session.specs.Calls.{turn, serve_refusal}
use Rattle.reorder_session.proofs.Whole.{whole_fit}
use Rattle.reorder_serve.proofs.serve.Goals as goal

pub returns-in-Err : goal.returns-in-Err
unfolding serve_of
returns-in-Err c =
    stays _ _ _ _ _ _ (say_refused _ _ (turn c.args.session) c.in-Err.ensures (number_not_0 c.in-Err.refusal))

pub step-served-requires : goal.step-served-requires
step-served-requires c =
    let a = c.args in
    let z : 0 ≡ serve_refusal a.session (length a.store.now) (length a.out.now) = c.in_default.ensures in
    let r = serve_ready single a.session (length a.store.now) (length a.out.now) (sym z) in
    record { start_bound = omega (arith, (whole_fit _ r.fit).next_most); store_len = r.store; room = r.out }

pub returns : goal.returns
unfolding serve_of
returns c =
    let e = c.step-served.ensures in
    let a = c.args in
    let z : 0 ≡ serve_refusal a.session (length a.store.now) (length a.out.now) = c.in_default.ensures in
    comes_by (leaves _ _ _ _ _ _ _ _ (say_answered _ (turn a.session) _ (sym z) refl) e.session e.output) (ap answered e.answer) refl refl
