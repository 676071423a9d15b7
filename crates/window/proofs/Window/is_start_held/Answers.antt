-- The lowest bit of the rotated word is the first position's mark.
use Rattle.std.proofs.Common.{◌≡◌, ℕ, ◌+◌, ◌%◌, eqb, sym, ap, ◌∙◌, arith}
use Rattle.numbers.specs.Bit.{bit}
use Rattle.numbers.proofs.Bits.{and_one}
use Rattle.window.specs.Window.{held_at}
use Rattle.window.proofs.Furthest.{rotated_held}
use Rattle.window.proofs.Window.is_start_held.Goals as goal

pub returns : goal.returns
returns c =
    let w = c.args.self in
    let r = c.rotated.result in
    let lowest : r % 2 ≡ bit r 0 = omega arith in
    let first : w.start + 0 ≡ w.start = omega arith in
    ap (λ (n : ℕ). eqb n 1) (and_one r ∙ lowest) ∙ sym (rotated_held w r c.rotated.type_inv c.rotated.ensures 0 (omega arith)) ∙ ap (held_at w) first
