-- Laws of what the chunks did to the bytes that are known.
use Prim.Native.Nat.{ℕ, ◌+◌, ◌-◌, ◌*◌, ◌≤◌}
use mathlib.Core.Path.{◌≡◌, refl, sym, ap, ap₂, subst, ◌∙◌}
use mathlib.Core.Bool.{Bool, true, false, cond, false≢true}
use mathlib.Core.List.{List, [], ◌++◌, append_assoc}
use native.Mathlib.Omega.{arith}
use lib.Dec.{ltb}
use lib.ListN.{length, take, length-append, length-take}
use lib.Seq.{take_all, take-append-le}
use Rattle.std.proofs.Common.{Option, Result, Ok, Err}
use Rattle.std.proofs.Math.Seq.{take-append-add}
use Rattle.std.specs.Io.KnownBytes.{Consumes, Appends, IsAtEnd}
use Rattle.program_input.specs.declared.Chunk.{Chunk}
use Rattle.program_input.specs.declared.Chunk.TheVariants as Ch
use Rattle.program_output.specs.declared.Unwritten.{Unwritten}
use Rattle.program_input.specs.Chunk.{ChunkTakes, chunk_bytes}
use Rattle.program_output.specs.Written.{TextWritten, text_taken, is_whole}
use Rattle.program_io.specs.declared.Next.TheVariants.{Continue, TooLong}
use Rattle.program_io.specs.Next.{chunks_most, after_chunk, is_continue, is_close}
use Rattle.program_input.proofs.Reading.{consumes_none, consumes_both, count_fits}
use Rattle.program_output.proofs.Writing.{appends_none, appends_both, taken_size, taken_start, taken_within, taken_whole, taken_all}
use Rattle.program_io.proofs.Following.{continue_full}
use Rattle.aedr.specs.Printed.{pieces_in, piece_count, lines, all_lines, total, printed}
use Rattle.aedr.specs.Chunks.{chunk_pieces, chunk_size}
use Rattle.aedr.proofs.Whole.{lines_parts}
use Rattle.aedr_io.specs.declared.Progress.{Progress}
use Rattle.aedr_io.specs.declared.Chunks.{Chunks}
use Rattle.aedr_io.specs.declared.Checked.{Checked}
use Rattle.aedr_io.specs.Check.{bytes_of, ChunkPrinted, ChunksPrinted, ChunksMoved, WholePrinted}
use Rattle.aedr_io.proofs.Printing.{all_pieces}

-- the lines of full chunks and of what follows them
all_parts : (bs c : List ℕ) (full : ℕ) → length bs ≡ chunk_size * full → all_lines (bs ++ c) 0 ≡ all_lines bs 0 ++ all_lines c (chunk_pieces * full)
all_parts bs c full h =
    let l : length (bs ++ c) ≡ length bs + length c = length-append bs c in
    let p : piece_count (bs ++ c) ≡ chunk_pieces * full + piece_count c = omega arith in
    let q : chunk_pieces * full ≡ piece_count bs = omega arith in
    let z : 0 + chunk_pieces * full ≡ chunk_pieces * full = omega arith in
    ap (lines (bs ++ c) 0) p
    ∙ lines_parts bs c 0 (chunk_pieces * full) (piece_count c) (omega arith)
    ∙ ap₂ (λ (a : List ℕ) (k : ℕ). a ++ lines c k (piece_count c)) (ap (lines bs 0) q) z

no_lines : (done : ℕ) → all_lines [] done ≡ []
unfolding lines
no_lines done = refl

-- a chunk that another follows, and one that the closing line follows
continue_takes : {E : Type 0} (full : ℕ) (all : Bool) (chunk : Result Chunk E) (old new : Option (List ℕ)) (buf : List ℕ) → is_continue (after_chunk full all chunk) ≡ true
    → ChunkTakes old new chunk buf → (all ≡ true) × Consumes old new (bytes_of chunk buf)
continue_takes full false chunk old new buf e h = absurd (false≢true e)
continue_takes full true (Err x) old new buf e h = absurd (false≢true e)
continue_takes full true (Ok (Ch.Full n)) old new buf e h = (refl, h)
continue_takes full true (Ok (Ch.Last n)) old new buf e h = absurd (false≢true e)

close_takes : {E : Type 0} (full : ℕ) (all : Bool) (chunk : Result Chunk E) (old new : Option (List ℕ)) (buf : List ℕ) → is_close (after_chunk full all chunk) ≡ true
    → ChunkTakes old new chunk buf → (all ≡ true) × Consumes old new (bytes_of chunk buf) × IsAtEnd new
close_takes full false chunk old new buf e h = absurd (false≢true e)
close_takes full true (Err x) old new buf e h = absurd (false≢true e)
close_takes full true (Ok (Ch.Full n)) old new buf e h = absurd (false≢true (sym (not_closing (ltb full (chunks_most - 1))) ∙ e))
  where
    not_closing : (b : Bool) → is_close (cond b Continue TooLong) ≡ false
    not_closing true = refl
    not_closing false = refl
close_takes full true (Ok (Ch.Last n)) old new buf e h = (refl, h.0, h.1)

-- the chunks so far, all full and all written
pub record Moved (left mid got now : Option (List ℕ)) (full : ℕ) : Type 0 where
  pub bytes : List ℕ
  pub size : length bytes ≡ chunk_size * full
  pub read : Consumes left mid bytes
  pub wrote : Appends got now (all_lines bytes 0)

pub moved_none : (left got : Option (List ℕ)) → Moved left left got got 0
moved_none left got = record {
  bytes = [];
  size = refl;
  read = consumes_none left;
  wrote = rw (no_lines 0) (appends_none got);
}

-- one more
pub moved_more : (p : Progress) (full : ℕ) (buf out : List ℕ) (left mid new got now after : Option (List ℕ)) → ChunkPrinted p full (chunk_pieces * full) buf out
    → is_continue p.next ≡ true → length buf ≡ chunk_size → Moved left mid got now full → ChunkTakes mid new p.chunk buf
    → Appends now after (text_taken p.printed (all_lines (bytes_of p.chunk buf) (chunk_pieces * full))) → Moved left new got after (full + 1)
moved_more p full buf out left mid new got now after h e l m k w =
    let c : List ℕ = bytes_of p.chunk buf in
    let n : is_continue (after_chunk full (is_whole p.printed) p.chunk) ≡ true = ap is_continue (sym h.next) ∙ e in
    let f = continue_full full chunk_size (is_whole p.printed) p.chunk h.within n in
    let t = continue_takes full (is_whole p.printed) p.chunk mid new buf n k in
    let s : length c ≡ chunk_size = rw length-take (omega (arith, f.0)) in
    record {
      bytes = m.bytes ++ c;
      size = rw length-append (omega (arith, m.size));
      read = consumes_both left mid new m.bytes c m.read t.1;
      wrote = rw (all_parts m.bytes c full m.size) (appends_both got now after _ _ m.wrote (rw (taken_whole p.printed _ t.0) at w));
    }

-- what the last chunk took, and how much of its lines was written
record Part (mid new : Option (List ℕ)) (text : List ℕ) (done : ℕ) : Type 0 where
  input : List ℕ
  shown : ℕ
  read : Consumes mid new input
  fits : shown ≤ length (all_lines input done)
  same : text ≡ take shown (all_lines input done)

last_part : {E : Type 0} (chunk : Result Chunk E) (mid new : Option (List ℕ)) (buf : List ℕ) (done : ℕ) (r : Result Unit Unwritten) → ChunkTakes mid new chunk buf
    → TextWritten r (length (all_lines (bytes_of chunk buf) done)) → Part mid new (text_taken r (all_lines (bytes_of chunk buf) done)) done
last_part (Err e) mid new buf done r k t = record {
  input = take k.0 buf;
  shown = 0;
  read = k.1;
  fits = omega arith;
  same = ap (text_taken r) (no_lines done) ∙ taken_start r [] ∙ take_all (taken_size r []) [] (omega arith);
}
last_part (Ok (Ch.Full n)) mid new buf done r k t = record {
  input = take n buf;
  shown = taken_size r (all_lines (take n buf) done);
  read = k;
  fits = taken_within r _ t;
  same = taken_start r _;
}
last_part (Ok (Ch.Last n)) mid new buf done r k t = record {
  input = take n buf;
  shown = taken_size r (all_lines (take n buf) done);
  read = k.0;
  fits = taken_within r _ t;
  same = taken_start r _;
}

-- the lines of full chunks, and the start of those of a last one, are the start of what is to be printed
part_shown : (bs c : List ℕ) (full k : ℕ) → length bs ≡ chunk_size * full → k ≤ length (all_lines c (chunk_pieces * full))
    → all_lines bs 0 ++ take k (all_lines c (chunk_pieces * full)) ≡ take (length (all_lines bs 0) + k) (printed (bs ++ c))
part_shown bs c full k h f =
    let a : List ℕ = all_lines bs 0 in
    let b : List ℕ = all_lines c (chunk_pieces * full) in
    let z : List ℕ = total (piece_count (bs ++ c)) in
    sym
    (ap (λ (l : List ℕ). take (length a + k) (l ++ z)) (all_parts bs c full h)
    ∙ ap (take (length a + k)) (append_assoc a b z)
    ∙ take-append-add a (b ++ z) k
    ∙ ap (λ (l : List ℕ). a ++ l) (take-append-le k b z f))

-- a check that ended before its closing line
pub broken_off : (s : Checked) (r : Chunks) (buf out : List ℕ) (left new got after : Option (List ℕ)) → s.complete ≡ false → ChunksPrinted r buf out
    → ChunksMoved r buf left new got after → WholePrinted s left new got after
broken_off s r buf out left new got after e h m =
    let p = last_part r.last.chunk m.mid new buf (chunk_pieces * r.full) r.last.printed m.last h.last.written in
    record {
      input = m.bytes ++ p.input;
      shown = length (all_lines m.bytes 0) + p.shown;
      read = consumes_both left m.mid new m.bytes p.input m.read p.read;
      wrote = subst (Appends got after) (ap (λ (l : List ℕ). all_lines m.bytes 0 ++ l) p.same ∙ part_shown m.bytes p.input r.full p.shown m.size p.fits) m.wrote;
      all_read = λ w. absurd (false≢true (sym e ∙ w));
      all_written = λ w. absurd (false≢true (sym e ∙ w));
    }

-- a check with its closing line
pub closed_whole : (s : Checked) (r : Chunks) (buf out : List ℕ) (left new got mid after : Option (List ℕ)) (end : Result Unit Unwritten) → ChunksPrinted r buf out
    → length buf ≡ chunk_size → ChunksMoved r buf left new got mid → is_close r.last.next ≡ true → TextWritten end (length (total r.last.records))
    → Appends mid after (text_taken end (total r.last.records)) → s.complete ≡ is_close (after_chunk r.full (is_whole end) r.last.chunk)
    → WholePrinted s left new got after
closed_whole s r buf out left new got mid after end h l m e t w q =
    let chunk = r.last.chunk in
    let c : List ℕ = bytes_of chunk buf in
    let input : List ℕ = m.bytes ++ c in
    let n : is_close (after_chunk r.full (is_whole r.last.printed) chunk) ≡ true = ap is_close (sym h.last.next) ∙ e in
    let k = close_takes r.full (is_whole r.last.printed) chunk m.mid new buf n m.last in
    let g : length c ≡ chunk_bytes chunk = rw length-take (omega (arith, count_fits chunk chunk_size h.last.within)) in
    let i : length input ≡ chunk_size * r.full + chunk_bytes chunk = rw length-append (omega (arith, m.size)) in
    let pieces : r.last.records ≡ piece_count input =
    all_pieces r.last r.full (chunk_pieces * r.full) buf out h.last e refl ∙ ap pieces_in (sym i) in
    let a : List ℕ = all_lines input 0 in
    let first : Appends got mid a =
    subst (Appends got mid) (ap (λ (x : List ℕ). all_lines m.bytes 0 ++ x) (taken_whole r.last.printed _ k.0) ∙ sym (all_parts m.bytes c r.full m.size)) m.wrote in
    let taken : ℕ = taken_size end (total r.last.records) in
    let both : Appends got after (a ++ take taken (total r.last.records)) = appends_both got mid after _ _ first (rw taken_start at w) in
    record {
      input = input;
      shown = length a + taken;
      read = consumes_both left m.mid new m.bytes c m.read k.1;
      wrote = subst (Appends got after) (ap (λ (x : ℕ). a ++ take taken (total x)) pieces ∙ sym (take-append-add a (total (piece_count input)) taken)) both;
      all_read = λ _. k.2;
      all_written = λ v. rw (length-append a (total (piece_count input))) (omega (arith, ap (λ (x : ℕ). length (total x)) pieces, taken_all end (total r.last.records) (closing_whole r.full (is_whole end) chunk (sym q ∙ v))));
    }
  where
    closing_whole : {E : Type 0} (full : ℕ) (all : Bool) (chunk : Result Chunk E) → is_close (after_chunk full all chunk) ≡ true → all ≡ true
    closing_whole full false chunk x = x
    closing_whole full true chunk x = refl
