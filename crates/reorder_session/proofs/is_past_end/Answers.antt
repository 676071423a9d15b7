-- A position from 1,000,000 on is so far ahead of next, or next is past it.
use Prim.Native.Nat.{◌+◌, ◌-◌}
use mathlib.Core.Path.{◌≡◌, refl, ap, ◌∙◌}
use native.Mathlib.Omega.{arith}
use borrow.Author.Tests.{lt-ltb, le-ltb}
use Rattle.window.specs.Window.{some_held}
use Rattle.reorder_session.specs.Session.{past_end}
use Rattle.reorder_session.proofs.is_past_end.Goals as goal

pub returns-then-window-gt-END_POSITION : goal.returns-then-window-gt-END_POSITION
unfolding past_end
returns-then-window-gt-END_POSITION c = rw (lt-ltb 1000000 c.args.window.start c.if-window-gt-END_POSITION.true) refl

pub returns-else-window-gt-END_POSITION : goal.returns-else-window-gt-END_POSITION
unfolding past_end
returns-else-window-gt-END_POSITION c =
    let w = c.args.window in
    let e : w.start + (1000000 - w.start) ≡ 1000000 = omega arith in
    rw (le-ltb 1000000 w.start c.if-window-gt-END_POSITION.false) (c.is_held_ahead.ensures ∙ ap (some_held w) e)
