-- The law of loops that store numbers.
use Rattle.std.proofs.Common.{arith, rules}
use Rattle.octets_runs_writer.proofs.Writing.{none_stored, more_past, next_index}
use Rattle.octets_runs_writer.proofs.write_run_past.Goals as goal

pub loop-number-init : goal.loop-number-init
loop-number-init g c = let a = c.args in (omega arith, none_stored g.met.W.Word.laws a.numbers.now a.i a.out.now)

pub loop-number-preserved : goal.loop-number-preserved
loop-number-preserved g c =
    let l = c.loop-number in
    let a = c.args in
    (next_index a.i g.W.Word.WIDTH l.number-index _ _ _ _ l.invariant.0 c.WIDTH.ensures c.saturating_add-at.ensures, more_past g.met.W.Word.laws a.numbers.now a.i a.out.now l.out l.number-index _ (omega arith) (search rules) l.invariant.1 _ _ _ c.write_at.ensures l.invariant.0 (omega arith))
