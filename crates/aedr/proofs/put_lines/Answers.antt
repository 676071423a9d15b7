-- One line more.
use Rattle.std.proofs.Common.{◌≡◌, ℕ, ◌-◌, ◌+◌, ◌<◌, suc, ap, refl, ◌∙◌, arith, rules}
use Rattle.std.specs.Slice.Iter.{chunks_rest}
use Rattle.aedr.specs.Printed.{piece_count, answer_of}
use Rattle.aedr.proofs.Reports.{lines_none, lines_more}
use Rattle.aedr.proofs.Pieces.{piece_first, piece_counted, pieces_all}
use Rattle.aedr.proofs.put_lines.Goals as goal

pub loop-piece-init : goal.loop-piece-init
loop-piece-init c =
    let a = c.args in
    let z : a.done - a.done ≡ 0 = omega arith in
    record {
      next = search rules;
      finite = tt;
      size = search rules;
      rest = rw z (search rules);
      low = omega arith;
      high = omega arith;
      room = omega arith;
      kept = refl;
      text = rw z (lines_none a.input.now a.out.now a.done);
    }

pub loop-piece-preserved : goal.loop-piece-preserved
loop-piece-preserved c =
    let a = c.args in
    let l = c.loop-piece in
    let i = l.invariant in
    let s = c.in-Some.ensures.steps in
    let p = c.put_line-at in
    let n = c.answer_number in
    let k : ℕ = l.number - a.done in
    let z : l.number + 1 - a.done ≡ suc k = omega (arith, i.low) in
    let f = piece_first a.input.now (chunks_rest l.piece-iterator) c.in-Some.piece.now (chunks_rest c.next.new.self) k i.rest s.1.0 (rw i.size at s.1.1) in
    let h : k < piece_count a.input.now = piece_counted a.input.now (chunks_rest l.piece-iterator) k i.rest s.1.2 in
    record {
      next = omega (arith, s.0, i.size);
      finite = tt;
      size = s.0 ∙ i.size;
      rest = rw z f.1;
      low = omega (arith, i.low);
      high = omega (arith, h, z);
      room = omega (arith, p.ensures.upper_bound, i.room, z);
      kept = p.auto.out ∙ i.kept;
      text = rw z (lines_more a.input.now a.out.now _ _ a.done k _ l.at n.result p.result (omega (arith, i.low)) (n.ensures.0 ∙ ap answer_of f.0) i.text p.ensures.text_at);
    }

pub returns : goal.returns
returns c =
    let a = c.args in
    let l = c.loop-piece in
    let i = l.invariant in
    let e = pieces_all a.input.now (chunks_rest l.piece-iterator) (l.number - a.done) i.rest c.in-None.ensures.steps.1.0 i.high in
    record { text_at = rw e at i.text; upper_bound = omega (arith, e, i.room) }
