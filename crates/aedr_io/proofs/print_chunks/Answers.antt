-- One chunk more, and the last.
use Rattle.std.proofs.Common.{◌≡◌, true, sym, ◌∙◌, arith}
use Rattle.program_io.specs.Next.{is_continue}
use Rattle.aedr_io.proofs.Printing.{goes_on}
use Rattle.aedr_io.proofs.Moved.{moved_none, moved_more}
use Rattle.aedr_io.proofs.print_chunks.Goals as goal

pub loop-last-init : goal.loop-last-init
loop-last-init g c = record {
  most = omega arith;
  pieces = omega arith;
  moved = moved_none (g.R.Read.remaining c.args.input.now) (g.W.Write.contents c.args.output.now);
}

pub loop-last-preserved : goal.loop-last-preserved
loop-last-preserved g c =
    let l = c.loop-last in
    let p = c.print_chunk-last in
    let e : is_continue p.result.next ≡ true = sym c.continues.ensures ∙ c.if-not-continues.false in
    let h = goes_on p.result l.full l.records p.new.buf p.new.out p.ensures.printed e l.invariant.pieces in
    record {
      most = omega (arith, h.1);
      pieces = h.0;
      moved = moved_more p.result l.full p.new.buf p.new.out _ _ _ _ _ _ (rw l.invariant.pieces at p.ensures.printed) e p.array_long
          l.invariant.moved p.ensures.reads (rw l.invariant.pieces at p.ensures.writes);
    }
