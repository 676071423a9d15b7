-- The answers so far, and what they leave, are the loop's invariant.
use mathlib.Core.Path.{◌≡◌, refl, sym, ap, ◌∙◌}
use native.Mathlib.Omega.{arith}
use Rattle.reorder_rules.proofs.Turns.{turns_stop}
use Rattle.reorder_session.specs.Session.{single}
use Rattle.reorder_session.specs.Calls.{shown}
use Rattle.reorder_serve.proofs.Running.{run_none, run_more, run_done, run_spent, moves}
use Rattle.reorder_serve.proofs.run.Goals as goal

pub loop-i-init : goal.loop-i-init
loop-i-init g c = run_none _ _ _ _ _ _

pub returns-in-Waiting : goal.returns-in-Waiting
returns-in-Waiting g c =
    let e = c.step-served.ensures in
    let w = sym e.answer ∙ c.in-Waiting.is in
    let d = run_done _ _ _ _ _ _ _ _ _ _ c.loop-i.invariant _ (e.output ∙ ap (shown c.loop-i.now _ _ _) w) (turns_stop single _ _ w) in
    record { count = d.count; session = d.session; output = d.output; places = d.reported }

pub loop-i-preserved : goal.loop-i-preserved
loop-i-preserved g c =
    let e = c.step-served.ensures in
    run_more _ _ _ _ _ _ _ _ _ _ c.loop-i.invariant (omega arith) _ _ _ _
    (moves _ (λ w. c.in_default.not-Waiting (e.answer ∙ w)))
    e.session e.output e.answer c.store.ensures

pub returns : goal.returns
returns g c =
    let l = c.loop-i in
    let all : c.args.budget ≡ l.i = omega arith in
    let d = run_done _ _ _ _ _ _ _ _ _ _ l.invariant _ refl (run_spent _ _ _ _ _ _ _ _ _ _ l.invariant (omega arith)) in
    record { count = all ∙ d.count; session = d.session; output = d.output; places = d.reported }
