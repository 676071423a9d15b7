-- At most 20 shots are good.
use native.Mathlib.Omega.{arith}
use Rattle.numbers.proofs.Bits.{bits_set_le}
use Rattle.pedr_flags_writer.proofs.quality_word.Goals as goal

pub overflow_add-result : goal.overflow_add-result
overflow_add-result c = omega (arith, bits_set_le c.args.quality.good 20)
