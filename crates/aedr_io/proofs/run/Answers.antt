-- The closing line, where the input ended.
use Rattle.std.proofs.Common.{ℕ, ◌≡◌, true, List, length, take, refl, sym, ap, subst, ◌∙◌, arith}
use Rattle.octets.specs.Bytes.{put}
use Rattle.std.specs.Io.KnownBytes.{Appends}
use Rattle.program_output.specs.Written.{TextWritten, text_taken}
use Rattle.program_io.specs.Next.{is_close}
use Rattle.aedr.specs.Printed.{total}
use Rattle.aedr_io.proofs.Texts.{stored, closing_text}
use Rattle.aedr_io.proofs.Printing.{closed}
use Rattle.aedr_io.proofs.Moved.{broken_off, closed_whole}
use Rattle.aedr_io.proofs.run.Goals as goal

pub returns-then-not-closes-clause-printed : goal.returns-then-not-closes-clause-printed
returns-then-not-closes-clause-printed g c =
    let r = c.print_chunks-full in
    broken_off _ r.result r.new.buf r.new.out _ _ _ _ refl r.ensures.printed r.ensures.moved

pub returns-clause-ran : goal.returns-clause-ran
returns-clause-ran g c =
    let r = c.print_chunks-full in
    let t = c.close-closing in
    let p = c.print-printed in
    let e = closing_text r.result.last.records (length r.new.out) r.array_long2 in
    let w : is_close r.result.last.next ≡ true = sym c.closes.ensures ∙ c.if-not-closes.false in
    let s : take t.result t.new.out ≡ total r.result.last.records =
    stored (total r.result.last.records) r.new.out t.new.out t.result (t.ensures.value.0 ∙ ap length e) (t.ensures.value.1 ∙ ap (put r.new.out 0) e) (omega (arith, t.ensures.upper_bound.0, t.auto.out)) in
    let z = t.ensures.upper_bound.1 ∙ ap length s in
    record {
      checked = closed r.result _ _ r.ensures.printed w _ _ (c.closes-complete.ensures ∙ ap is_close c.after_chunk-next.ensures);
      total_text = λ _. ap (λ (k : ℕ). take k t.new.out) (sym z) ∙ s;
      total_written = λ _. subst (TextWritten p.result) (ap length s) p.ensures.written;
    }

pub returns-clause-printed : goal.returns-clause-printed
returns-clause-printed g c =
    let r = c.print_chunks-full in
    let t = c.close-closing in
    let p = c.print-printed in
    let e = closing_text r.result.last.records (length r.new.out) r.array_long2 in
    let w : is_close r.result.last.next ≡ true = sym c.closes.ensures ∙ c.if-not-closes.false in
    let s : take t.result t.new.out ≡ total r.result.last.records =
    stored (total r.result.last.records) r.new.out t.new.out t.result (t.ensures.value.0 ∙ ap length e) (t.ensures.value.1 ∙ ap (put r.new.out 0) e) (omega (arith, t.ensures.upper_bound.0, t.auto.out)) in
    closed_whole _ r.result r.new.buf r.new.out _ _ _ _ _ p.result r.ensures.printed r.array_long r.ensures.moved w
    (subst (TextWritten p.result) (ap length s) p.ensures.written)
    (subst (λ (text : List ℕ). Appends (g.W.Write.contents r.new.output) (g.W.Write.contents p.new.out) (text_taken p.result text)) s p.ensures.bytes)
    (c.closes-complete.ensures ∙ ap is_close c.after_chunk-next.ensures)
