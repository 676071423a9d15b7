-- The words' parts at their places.
use Prim.Native.Nat.{ℕ, ◌+◌, ◌*◌, ◌%◌, ◌^◌}
use mathlib.Core.Path.{◌≡◌, sym, ap₂, ◌∙◌}
use native.Mathlib.Omega.{arith}
use Rattle.numbers.proofs.Given.{digit_lt}
use Rattle.pedr_flags_writer.proofs.Descriptor.{high_word, low_word, two_words}
use Rattle.pedr_flags_writer.proofs.Shots.{digit_byte}
use Rattle.pedr_flags_writer.proofs.descriptor_words.Goals as goal

pub returns : goal.returns
returns c =
    let d = c.args.descriptor in
    let fs = c.args.failures.now in
    let shots = c.told-failures in
    let p = digit_byte d.packet_sum in
    let q = digit_byte d.software_sum in
    let m = digit_byte d.mode in
    let o = digit_byte d.ots in
    let pl = digit_lt d.packet_sum in
    let ql = digit_lt d.software_sum in
    let ml = digit_lt d.mode in
    let ol = digit_lt d.ots in
    let high : c.shot_words-shots.result.high + c.from.result % 2 ^ 24 * 2 ^ 40 % 2 ^ 64 ≡ high_word d fs shots = omega arith in
    let low : c.from-2.result + c.from-3.result * 2 % 2 ^ 64 + c.from-4.result * 4 % 2 ^ 64 + c.from-5.result * 8 % 2 ^ 64
    + c.shot_words-shots.result.low * 16 % 2 ^ 64 ≡ low_word d fs shots = omega arith in
    (ap₂ (λ (h l : ℕ). h * 2 ^ 64 + l) high low ∙ sym (two_words d fs shots), omega arith)
