-- The chunks of the check program: what they read into the buffer, and what they hand on to be written.
use Rattle.std.specs.Prelude.{ℕ, ◌+◌, ◌*◌, ◌≤◌, ◌≡◌, true, false, List, ◌++◌, length, take, Option, Result}
use Rattle.std.specs.Io.KnownBytes.{Consumes, Appends, IsAtEnd}
use Rattle.program_input.specs.declared.Chunk.{Chunk}
use Rattle.program_io.specs.declared.Next.{Next}
use Rattle.program_io.specs.declared.Next.TheVariants.{Continue, Close, Stop, TooLong}
use Rattle.program_input.specs.Chunk.{ChunkWithin, ChunkTakes, chunk_bytes}
use Rattle.program_output.specs.Written.{TextWritten, text_taken, is_whole}
use Rattle.program_io.specs.Next.{chunks_most, after_chunk, is_continue, is_close}
use Rattle.aedr.specs.Printed.{pieces_in, all_lines, total, printed}
use Rattle.aedr.specs.Chunks.{chunk_pieces, chunk_size}
use Rattle.aedr_io.specs.declared.Progress.{Progress}
use Rattle.aedr_io.specs.declared.Chunks.{Chunks}
use Rattle.aedr_io.specs.declared.Checked.{Checked}

-- the pieces whose lines are written, with `done` before a chunk of n bytes: a chunk that failed adds none
abbrev pub records_after : Next → ℕ → ℕ → ℕ
records_after Continue done n = done + pieces_in n
records_after Close done n = done + pieces_in n
records_after Stop done n = done
records_after TooLong done n = done + pieces_in n

-- the bytes of a chunk in the buffer
abbrev pub bytes_of : {E : Type 0} → Result Chunk E → List ℕ → List ℕ
bytes_of chunk buf = take (chunk_bytes chunk) buf

-- A chunk after `full` others of `done` pieces, with what it leaves in buf and out: its text is the lines of its bytes, numbered on from those
-- pieces; what follows goes by how its reads ended and whether all of the text was written.
pub record ChunkPrinted (r : Progress) (full done : ℕ) (buf out : List ℕ) : Type 0 where
  pub within : ChunkWithin chunk_size r.chunk
  pub text : take (length (all_lines (bytes_of r.chunk buf) done)) out ≡ all_lines (bytes_of r.chunk buf) done
  pub written : TextWritten r.printed (length (all_lines (bytes_of r.chunk buf) done))
  pub next : r.next ≡ after_chunk full (is_whole r.printed) r.chunk
  pub records : r.records ≡ records_after r.next done (chunk_bytes r.chunk)

-- All the chunks: the last comes after `full` ones of 213 pieces, and none follows it.
pub record ChunksPrinted (r : Chunks) (buf out : List ℕ) : Type 0 where
  pub last : ChunkPrinted r.last r.full (chunk_pieces * r.full) buf out
  pub ended : is_continue r.last.next ≡ false
  pub most : r.last.records ≤ chunk_pieces * chunks_most

-- What the chunks did to the bytes that a reader has left and to those that a writer got, where those are known: the bytes of the full chunks were read, one
-- chunk after the other, and their lines written; then those of the last chunk, and its text as far as it was taken.
pub record ChunksMoved (r : Chunks) (buf : List ℕ) (left left' got got' : Option (List ℕ)) : Type 0 where
  pub bytes : List ℕ
  pub size : length bytes ≡ chunk_size * r.full
  pub mid : Option (List ℕ)
  pub read : Consumes left mid bytes
  pub last : ChunkTakes mid left' r.last.chunk buf
  pub wrote : Appends got got' (all_lines bytes 0 ++ text_taken r.last.printed (all_lines (bytes_of r.last.chunk buf) (chunk_pieces * r.full)))

-- What can be said of a check without its buffers. Its last chunk filled the buffer or left room. It is complete where the last chunk ended the input and all of
-- the last text was taken. The pieces are those of `full` chunks of 213 and of one of at most as many; those of a complete
-- check are those of all the bytes that were read.
pub record FileChecked (r : Checked) : Type 0 where
  pub within : ChunkWithin chunk_size r.chunk
  pub complete : r.complete ≡ is_close (after_chunk r.full (is_whole r.printed) r.chunk)
  pub most : r.records ≤ chunk_pieces * chunks_most
  pub low : chunk_pieces * r.full ≤ r.records
  pub high : r.records ≤ chunk_pieces * r.full + chunk_pieces
  pub pieces : r.complete ≡ true → r.records ≡ pieces_in (chunk_size * r.full + chunk_bytes r.chunk)

-- A check, with what it leaves in out: the last text of a complete one is the total.
pub record Ran (r : Checked) (out : List ℕ) : Type 0 where
  pub checked : FileChecked r
  pub total_text : r.complete ≡ true → take (length (total r.records)) out ≡ total r.records
  pub total_written : r.complete ≡ true → TextWritten r.printed (length (total r.records))

-- What a check did to the bytes that a reader has left and to those that a writer got, where those are known: it read the next of them, the input, and wrote the
-- start of what is to be printed for the input; a complete one read all that were left, and wrote all that is to be printed for them.
pub record WholePrinted (r : Checked) (left left' got got' : Option (List ℕ)) : Type 0 where
  pub input : List ℕ
  pub shown : ℕ
  pub read : Consumes left left' input
  pub wrote : Appends got got' (take shown (printed input))
  pub all_read : r.complete ≡ true → IsAtEnd left'
  pub all_written : r.complete ≡ true → length (printed input) ≤ shown
