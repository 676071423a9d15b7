-- Laws of the texts at the start of the output.
use Prim.Native.Nat.{ℕ, ◌+◌, ◌*◌, ◌≤◌}
use mathlib.Core.Path.{◌≡◌, sym, ap, ◌∙◌}
use mathlib.Core.List.{List}
use native.Mathlib.Omega.{arith}
use lib.ListN.{length, take, drop, length-take}
use lib.Seq.{take_at}
use Rattle.octets.specs.Bytes.{put}
use Rattle.octets.proofs.Store.{put_splice}
use Rattle.program_io.specs.Next.{chunks_most}
use Rattle.aedr.specs.Printed.{all_lines, total}
use Rattle.aedr.specs.Chunks.{chunk_pieces, chunk_size, chunk_room, report, closing}
use Rattle.aedr.proofs.Reports.{closing_total}
use Rattle.std.proofs.Common.{Result}
use Rattle.program_input.specs.declared.Chunk.{Chunk}
use Rattle.program_input.specs.Chunk.{chunk_bytes}
use Rattle.aedr_io.specs.Check.{bytes_of}
use Rattle.aedr.proofs.Whole.{chunk_lines}

-- a text that was stored at the start is what stands there
pub stored : (text s t : List ℕ) (r : ℕ) → r ≡ length text → t ≡ put s 0 text → r ≤ length s → take r t ≡ text
stored text s t r e q h =
    ap (take r) (q ∙ put_splice s text 0 (omega arith)) ∙ take_at text (drop (0 + length text) s) r (sym e)

-- a chunk has room for its lines, and the total for its own
pub report_lines : (buf : List ℕ) (n done room : ℕ) → length buf ≡ chunk_size → room ≡ chunk_room → done ≤ chunk_pieces * chunks_most
    → report (take n buf) done room ≡ all_lines (take n buf) done
report_lines buf n done room l k h =
    ap (report (take n buf) done) k ∙ chunk_lines (take n buf) done (omega (arith, length-take n buf)) (omega (arith, length-take n buf))

-- what stands at the start of the output after a chunk's report
pub chunk_text : {E : Type 0} (chunk : Result Chunk E) (buf out new : List ℕ) (read r done : ℕ) → length buf ≡ chunk_size → length out ≡ chunk_room → done ≤ chunk_pieces * chunks_most
    → read ≡ chunk_bytes chunk → r ≡ length (report (take read buf) done (length out)) → new ≡ put out 0 (report (take read buf) done (length out)) → r ≤ length out
    → take r new ≡ all_lines (bytes_of chunk buf) done
chunk_text chunk buf out new read r done l k h c e q f =
    stored (report (take read buf) done (length out)) out new r e q f
    ∙ report_lines buf read done (length out) l k h
    ∙ ap (λ (m : ℕ). all_lines (take m buf) done) c

pub closing_text : (n room : ℕ) → room ≡ chunk_room → closing n room ≡ total n
closing_text n room k = closing_total n room (omega arith)
