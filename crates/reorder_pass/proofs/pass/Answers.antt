-- A refusal leaves the session; else next has moved on.
use mathlib.Core.Path.{refl, ap, ◌∙◌}
use mathlib.Core.List.{[]}
use native.Mathlib.Omega.{arith}
use Rattle.octets.proofs.Ladder.{answer_said}
use Rattle.refusal.specs.Number.{said}
use Rattle.window.specs.Window.{skipped}
use Rattle.window.proofs.Held.{has_32_bits}
use Rattle.reorder_rules.specs.Pass.{pass_of}
use Rattle.reorder_rules.proofs.Said.{stays, leaves, comes_by}
use Rattle.reorder_rules.proofs.Ready.{pass_ready}
use Rattle.reorder_session.specs.Session.{with_window, single}
use Rattle.reorder_session.proofs.Whole.{whole_fit}
use Rattle.reorder_pass.proofs.pass.Goals as goal

pub returns-in-Err : goal.returns-in-Err
unfolding pass_of
returns-in-Err c = comes_by (stays _ _ _ _ _ _ c.in-Err.ensures) (ap said c.in-Err.is) refl refl

pub returns-in-Ok : goal.returns-in-Ok
unfolding pass_of
returns-in-Ok c =
    let s = c.args.session in
    let a = answer_said _ s.window.start _ c.in-Ok.ensures in
    let v = whole_fit s (pass_ready single s a.0).fit in
    let small = has_32_bits (skipped s.window) (omega (arith, v.next_most)) in
    comes_by (leaves _ [] _ _ _ _ _ [] c.in-Ok.ensures (c.with_window-session.ensures ∙ ap (with_window s) (c.skip.ensures ∙ small)) refl) (ap said c.in-Ok.is) refl refl
