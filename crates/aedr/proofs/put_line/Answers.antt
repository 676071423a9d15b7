-- The two numbers, each with the byte after it.
use Rattle.std.proofs.Common.{ℕ, ◌≤◌, ◌<◌, ◌^◌, length, arith}
use Rattle.aedr.specs.Decimal.{decimal}
use Rattle.aedr.proofs.Texts.{text_line}
use Rattle.aedr.proofs.Digits.{decimal_length}
use Rattle.aedr.proofs.put_line.Goals as goal

-- the two numbers have at most 20 digits and 2
digits_room : (n a : ℕ) → n < 2 ^ 64 → a < 100 → (length (decimal n) ≤ 20) × (length (decimal a) ≤ 2)
digits_room n a h k = (decimal_length 20 n (omega arith) (omega arith) h, decimal_length 2 a (omega arith) (omega arith) (omega arith))

pub put_number-space-requires : goal.put_number-space-requires
put_number-space-requires c = omega (arith, digits_room c.args.number c.args.answer (omega arith) (omega arith))

pub put_text-second-requires : goal.put_text-second-requires
put_text-second-requires c = omega (arith, digits_room c.args.number c.args.answer (omega arith) (omega arith), c.put_number-space.auto.out)

pub put_number-end-requires : goal.put_number-end-requires
put_number-end-requires c =
    omega (arith, digits_room c.args.number c.args.answer (omega arith) (omega arith), c.put_number-space.auto.out, c.put_text-second.auto.out)

pub put_text-requires : goal.put_text-requires
put_text-requires c =
    omega (arith, digits_room c.args.number c.args.answer (omega arith) (omega arith), c.put_number-space.auto.out, c.put_text-second.auto.out, c.put_number-end.auto.out)

pub returns : goal.returns
returns c = record {
  text_at = text_line _ _ _ _ _ _ _ _ _ _ _ _ c.put_number-space.ensures c.put_text-second.ensures c.put_number-end.ensures c.put_text.ensures;
  upper_bound = omega (arith, digits_room c.args.number c.args.answer (omega arith) (omega arith));
}
