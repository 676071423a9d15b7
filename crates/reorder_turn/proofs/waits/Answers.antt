-- The turn by the two tests.
use Prim.Native.Nat.{◌+◌}
use mathlib.Core.Path.{◌≡◌, sym, ap, ◌∙◌}
use mathlib.Core.Bool.{Bool, true, false, not}
use Rattle.window.specs.Window.{held_at, some_held}
use Rattle.reorder_session.specs.declared.Session.{Session}
use Rattle.reorder_session.specs.Session.{single}
use Rattle.reorder_session.specs.Calls.{turn}
use Rattle.reorder_rules.specs.Turn.{is_waiting}
use Rattle.reorder_rules.proofs.Turns.{turn_packet, turn_missing, turn_waiting}
use Rattle.reorder_turn.proofs.waits.Goals as goal

by_ahead : (s : Session) → held_at s.window s.window.start ≡ false → (b : Bool) → some_held s.window (s.window.start + s.threshold) ≡ b
    → not b ≡ is_waiting (turn s)
by_ahead s free true e = ap is_waiting (sym (turn_missing single s free e))
by_ahead s free false e = ap is_waiting (sym (turn_waiting single s free e))

pub returns-then-not-is_start_held : goal.returns-then-not-is_start_held
returns-then-not-is_start_held c = by_ahead c.args.session (sym c.if-not-is_start_held.ensures) c.is_held_ahead.result (sym c.is_held_ahead.ensures)

pub returns-else-not-is_start_held : goal.returns-else-not-is_start_held
returns-else-not-is_start_held c = ap not c.if-not-is_start_held.false ∙ ap is_waiting (sym (turn_packet single c.args.session (sym c.if-not-is_start_held.ensures)))
