-- One part more.
use Rattle.program_output.proofs.Writing.{appends_both}
use Rattle.program_output.proofs.failure.fail.Goals as goal

pub loop-part-preserved : goal.loop-part-preserved
loop-part-preserved g c = (_, appends_both _ _ _ _ _ c.loop-part.invariant.1 c.write.ensures.bytes)
