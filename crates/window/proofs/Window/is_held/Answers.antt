-- Below the window, above it, and inside by the position's bit.
use Rattle.std.proofs.Common.{ℕ, ◌+◌, ◌/◌, ◌%◌, ◌^◌, ◌≤◌, eqb, sym, ap, ◌∙◌, arith}
use Rattle.numbers.proofs.Bits.{and_one}
use Rattle.window.proofs.Held.{held_below, held_above, held_inside}
use Rattle.window.proofs.Window.is_held.Goals as goal
use Rattle.window.proofs.Window.is_held.Goals.{then-self-p, else-self-p}

pub returns-then-p-self-le-MOST_AHEAD : goal.returns-then-p-self-le-MOST_AHEAD
returns-then-p-self-le-MOST_AHEAD c =
    let a = c.args in
    let inside : (a.self.start ≤ a.p) × (a.p ≤ a.self.start + 31) = elim c.if-self-p.branch [ then-self-p w ↦ grind arith | else-self-p w ↦ grind arith ] in
    ap (λ (n : ℕ). eqb n 1) (and_one (a.self.marks / 2 ^ (a.p % 32))) ∙ sym (held_inside a.self a.p inside.0 inside.1)

pub returns-else-p-self-le-MOST_AHEAD : goal.returns-else-p-self-le-MOST_AHEAD
returns-else-p-self-le-MOST_AHEAD c = elim c.if-self-p.branch [
  | then-self-p w ↦ grind (arith, held_above)
  | else-self-p w ↦ grind (arith, held_below)
]
