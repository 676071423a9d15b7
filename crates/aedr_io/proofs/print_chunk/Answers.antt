-- The text is the lines of the chunk's bytes.
use Rattle.std.proofs.Common.{ℕ, ◌≡◌, List, length, take, sym, ap, subst, ◌∙◌, arith}
use Rattle.std.specs.Io.KnownBytes.{Appends}
use Rattle.program_input.specs.Chunk.{ChunkWithin}
use Rattle.program_output.specs.Written.{TextWritten, text_taken}
use Rattle.aedr.specs.Chunks.{chunk_size}
use Rattle.aedr_io.specs.Check.{records_after}
use Rattle.aedr_io.proofs.Texts.{chunk_text}
use Rattle.aedr_io.proofs.print_chunk.Goals as goal

pub returns-clause-printed : goal.returns-clause-printed
returns-clause-printed g c =
    let a = c.args in
    let f = c.fill-chunk in
    let n = c.count-read in
    let p = c.report-text in
    let t = c.print-printed in
    let l : length f.new.buf ≡ chunk_size = omega (arith, f.auto.buf) in
    let e = chunk_text f.result f.new.buf a.out.now p.new.out n.result p.result a.records l (omega arith) c.requires n.ensures p.ensures.value.0 p.ensures.value.1 (omega (arith, p.ensures.upper_bound.0, p.auto.out)) in
    let z = p.ensures.upper_bound.1 ∙ ap length e in
    record {
      within = subst (λ (k : ℕ). ChunkWithin k f.result) l f.ensures.chunk_within;
      text = ap (λ (k : ℕ). take k p.new.out) (sym z) ∙ e;
      written = subst (TextWritten t.result) (ap length e) t.ensures.written;
      next = c.after_chunk-next.ensures;
      records = c.records_after-records.ensures ∙ ap (records_after c.after_chunk-next.result a.records) n.ensures;
    }

pub returns-clause-writes : goal.returns-clause-writes
returns-clause-writes g c =
    let a = c.args in
    let f = c.fill-chunk in
    let n = c.count-read in
    let p = c.report-text in
    let t = c.print-printed in
    let l : length f.new.buf ≡ chunk_size = omega (arith, f.auto.buf) in
    let e = chunk_text f.result f.new.buf a.out.now p.new.out n.result p.result a.records l (omega arith) c.requires n.ensures p.ensures.value.0 p.ensures.value.1 (omega (arith, p.ensures.upper_bound.0, p.auto.out)) in
    subst (λ (text : List ℕ). Appends (g.W.Write.contents a.output.now) (g.W.Write.contents t.new.out) (text_taken t.result text)) e t.ensures.bytes
