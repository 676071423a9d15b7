-- The position's bit is set.
use Rattle.std.proofs.Common.{◌%◌, ap, ◌∙◌}
use lib.Bits.{bit_or}
use Rattle.numbers.proofs.Bits.{set_bit_lem}
use Rattle.window.proofs.Window.hold.Goals as goal

pub returns : goal.returns
returns c =
    let w = c.args.self in
    let m = ap (bit_or w.marks) c.bit_of.ensures ∙ set_bit_lem w.marks (c.args.p % 32) in
    λ i. record { start = w.start; marks = m i }
