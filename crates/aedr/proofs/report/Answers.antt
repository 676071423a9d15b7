-- Nothing for want of room or of numbers, or all the lines.
use Rattle.std.proofs.Common.{arith}
use Rattle.aedr.proofs.Reports.{no_room, no_numbers, all_lines_lem}
use Rattle.aedr.proofs.report.Goals as goal
use Rattle.aedr.proofs.report.Goals.{then-out-count-via-then-out-count, then-out-count-via-else-out-count+then-done-count}

pub returns-then-out-count-clause-value : goal.returns-then-out-count-clause-value
returns-then-out-count-clause-value c =
    let a = c.args in
    elim c.then-out-count.branch [
      | then-out-count-via-then-out-count w ↦ no_room a.input.now a.out.now a.done (omega (arith, w.if-out-count.true, c.count_pieces-count.ensures))
      | then-out-count-via-else-out-count+then-done-count w ↦ no_numbers a.input.now a.out.now a.done (omega (arith, w.if-done-count.true, c.count_pieces-count.ensures))
    ]

pub returns-clause-value : goal.returns-clause-value
returns-clause-value c =
    let a = c.args in
    let n = c.count_pieces-count in
    let p = c.put_lines in
    all_lines_lem a.input.now a.out.now _ a.done p.result (omega arith) (omega arith) p.ensures.text_at
