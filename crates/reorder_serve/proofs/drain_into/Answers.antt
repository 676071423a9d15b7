-- A refusal leaves everything; else it is the run, whose count is how far next has moved.
use mathlib.Core.Path.{◌≡◌, refl, sym, ap, ◌∙◌}
use native.Mathlib.Omega.{arith}
use lib.ListN.{length}
use Rattle.octets.specs.Refusal.{refused, answered}
use Rattle.octets.proofs.Ladder.{say_refused, say_answered}
use Rattle.refusal.specs.Number.{number}
use Rattle.refusal.proofs.Said.{number_not_0}
use Rattle.reorder_rules.specs.Serve.{drain_of}
use Rattle.reorder_rules.proofs.Said.{stays, leaves}
use Rattle.reorder_rules.proofs.Turns.{counted_next}
use Rattle.reorder_rules.proofs.Ready.{drain_ready}
use Rattle.reorder_session.specs.declared.Session.{Session}
use Rattle.reorder_session.specs.Session.{single}
use Rattle.reorder_session.specs.Calls.{turns, drain_refusal}
use Rattle.reorder_session.proofs.Whole.{whole_fit}
use Rattle.reorder_serve.proofs.Stored.{drains_into}
use Rattle.reorder_serve.proofs.drain_into.Goals as goal

pub returns-in-Err : goal.returns-in-Err
unfolding drain_of
returns-in-Err g c =
    let a = c.args in
    let n = number c.in-Err.refusal in
    let k = stays _ _ _ _ _ _ (say_refused _ _ (turns a.budget a.session) c.in-Err.ensures (number_not_0 c.in-Err.refusal)) in
    drains_into _ _ _ _ _ _ (refused n) _ _ _ _ (record { comes = k; count = omega arith }) refl refl

pub run-ran-requires : goal.run-ran-requires
run-ran-requires g c =
    let a = c.args in
    let z : 0 ≡ drain_refusal a.session (length a.store.now) (length a.out.now) a.budget = c.in_default.ensures in
    let r = drain_ready single a.session (length a.store.now) (length a.out.now) a.budget (sym z) in
    record { start_le_end_position = (whole_fit _ r.fit).next_most; store_len = r.store; out_len = r.out; budget_le_positions = r.most }

pub returns : goal.returns
unfolding drain_of
returns g c =
    let r = c.run-ran.ensures in
    let a = c.args in
    let ts = turns a.budget a.session in
    let z : 0 ≡ drain_refusal a.session (length a.store.now) (length a.out.now) a.budget = c.in_default.ensures in
    let k = leaves _ _ _ _ ts _ _ _ (say_answered _ ts _ (sym z) refl) r.session r.output in
    drains_into _ _ _ _ _ _ (answered ts) _ _ _ _
    (record {
      comes = k;
      count = ap (λ (x : Session). x.window.start) r.session ∙ counted_next single (λ x. refl) (λ x. refl) a.budget a.session;
    })
    (ap answered r.count) r.places
