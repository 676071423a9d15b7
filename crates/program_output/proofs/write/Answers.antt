-- The bytes that this write took stand behind those before it.
use Rattle.std.proofs.Common.{arith}
use Rattle.program_output.proofs.Writing.{goes_on, appends_more}
use Rattle.program_output.proofs.write.Goals as goal

pub loop-taken-preserved : goal.loop-taken-preserved
loop-taken-preserved g c =
    let w = c.write_once-wrote in
    let m = goes_on w.result _ _ _ c.in-Continue.ensures in
    record {
      within = omega arith;
      bytes = rw m.0 (appends_more _ _ _ _ _ _ c.loop-taken.invariant.bytes w.ensures.bytes);
    }
