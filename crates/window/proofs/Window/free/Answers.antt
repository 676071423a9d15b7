-- The first position's bit is cleared.
use Rattle.std.proofs.Common.{ℕ, ◌+◌, ◌-◌, ◌%◌, ap, ◌∙◌, arith}
use lib.Bits.{bit_and}
use Rattle.numbers.proofs.Bits.{clear_bit_lem}
use Rattle.window.proofs.Window.free.Goals as goal

pub returns : goal.returns
returns c =
    let w = c.args.self in
    let m = ap (λ (b : ℕ). bit_and w.marks (4294967295 - b)) c.bit_of.ensures ∙ clear_bit_lem 32 w.marks (w.start % 32) (omega arith) (omega arith) in
    λ i. record { start = (w.start + 1) % 4294967296; marks = m i }
