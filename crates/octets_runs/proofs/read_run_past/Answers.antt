-- The law of loops that read numbers.
use Rattle.std.proofs.Common.{arith}
use Rattle.octets_runs.proofs.Numbers.{more_past, rest_more, all_read}
use Rattle.octets_runs.proofs.read_run_past.Goals as goal

pub loop-number-preserved : goal.loop-number-preserved
loop-number-preserved g c =
    let l = c.loop-number in
    let a = c.args in (
      rest_more g.met.W.Word.laws a.bytes.now a.i a.out.now l.out l.number-index _ _ _ l.invariant.0 c.bytes_from-rest-in-loop-number.ensures c.WIDTH.ensures,
      more_past g.met.W.Word.laws a.bytes.now a.i a.out.now l.out l.number-index _ _ (omega arith) c.read_at.ensures l.invariant.0 l.invariant.1,
    )

pub returns : goal.returns
returns g c =
    let l = c.loop-number in
    let a = c.args in
    all_read g.met.W.Word.laws a.bytes.now a.i a.out.now l.out l.number-index (omega arith) l.invariant.1
