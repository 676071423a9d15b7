-- By the leading zeros of the rotated word; nothing is held from start + 32 on.
use Rattle.std.proofs.Common.{sym, ◌∙◌, arith}
use borrow.Author.Tests.{lt-leb}
use Rattle.window.proofs.Held.{held_most, none_held}
use Rattle.window.proofs.Furthest.{by_leading_zeros}
use Rattle.window.proofs.Window.is_held_ahead.Goals as goal

pub returns-then-least-le-MOST_AHEAD : goal.returns-then-least-le-MOST_AHEAD
returns-then-least-le-MOST_AHEAD c = by_leading_zeros _ _ c.rotated.type_inv c.rotated.ensures _ (omega arith)

pub returns-else-least-le-MOST_AHEAD : goal.returns-else-least-le-MOST_AHEAD
returns-else-least-le-MOST_AHEAD c = lt-leb _ _ c.if-least-le-MOST_AHEAD.false ∙ sym (none_held c.args.self _ (λ p e l. omega (arith, held_most c.args.self p e)))
