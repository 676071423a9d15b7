-- The bytes of this read stand behind those before it.
use Rattle.std.proofs.Common.{ℕ, take, arith, length-take, length-drop}
use Rattle.program_input.proofs.Reading.{goes_on, read_more}
use Rattle.program_input.proofs.fill.Goals as goal

pub loop-count-preserved : goal.loop-count-preserved
loop-count-preserved g c =
    let l = c.loop-count in
    let r = c.read_once-got in
    let m = goes_on r.result _ _ _ _ _ _ c.in-Continue.ensures r.ensures.bytes in
    record {
      within = omega (arith, length-take {A = ℕ}, length-drop {A = ℕ});
      bytes = rw m.next_is (read_more _ _ _ (take l.count l.buf) r.new.rest _ l.count m.more (simp length-take (omega arith))
          (omega (arith, length-take {A = ℕ}, length-drop {A = ℕ})) l.invariant.bytes m.bytes);
    }
