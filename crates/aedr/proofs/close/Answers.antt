-- The word, the number and the end of the line.
use Rattle.std.proofs.Common.{ℕ, ◌≤◌, ◌<◌, ◌^◌, length, arith}
use Rattle.aedr.specs.Decimal.{decimal}
use Rattle.aedr.proofs.Reports.{no_closing, all_closing}
use Rattle.aedr.proofs.Texts.{text_total, counts}
use Rattle.aedr.proofs.Digits.{decimal_length}
use Rattle.aedr.proofs.close.Goals as goal

-- the number has at most 20 digits
digits_room : (n : ℕ) → n < 2 ^ 64 → length (decimal n) ≤ 20
digits_room n h = decimal_length 20 n (omega arith) (omega arith) h

pub returns-then-out-lt-TOTAL_ROOM-clause-value : goal.returns-then-out-lt-TOTAL_ROOM-clause-value
returns-then-out-lt-TOTAL_ROOM-clause-value c = no_closing c.args.out.now c.args.n c.if-out-lt-TOTAL_ROOM.true

pub put_number-end-requires : goal.put_number-end-requires
put_number-end-requires c = omega (arith, digits_room c.args.n (omega arith), c.put_text-word.auto.out)

pub put_text-requires : goal.put_text-requires
put_text-requires c = omega (arith, digits_room c.args.n (omega arith), c.put_text-word.auto.out, c.put_number-end.auto.out)

pub returns : goal.returns
returns c =
    let w = c.put_text-word in
    let n = c.put_number-end in
    let p = c.put_text in
    record {
      value = all_closing _ _ c.args.n _ (omega arith) (text_total _ _ _ _ _ _ _ _ _ w.ensures n.ensures p.ensures);
      upper_bound = counts p.new.out p.result (omega (arith, digits_room c.args.n (omega arith), w.auto.out, n.auto.out, p.auto.out));
    }
