-- Laws of what follows a chunk.
use Rattle.std.proofs.Common.{◌≡◌, ℕ, ◌-◌, ◌<◌, Bool, true, false, cond, Result, Ok, Err, refl}
use mathlib.Core.Bool.{false≢true}
use lib.Dec.{ltb}
use borrow.Author.Tests.{ltb-true}
use Rattle.program_input.specs.declared.Chunk.{Chunk}
use Rattle.program_input.specs.declared.Chunk.TheVariants as Ch
use Rattle.program_io.specs.declared.Next.{Next}
use Rattle.program_io.specs.declared.Next.TheVariants as Nx
use Rattle.program_input.specs.Chunk.{ChunkWithin, chunk_bytes}
use Rattle.program_io.specs.Next.{chunks_most, after_chunk, is_continue, is_close}

pub is_continue_lem : (next : Next) → is_continue next ≡ true → next ≡ Nx.Continue
is_continue_lem Nx.Continue e = refl
is_continue_lem Nx.Close e = absurd (false≢true e)
is_continue_lem Nx.Stop e = absurd (false≢true e)
is_continue_lem Nx.TooLong e = absurd (false≢true e)

pub is_close_lem : (next : Next) → is_close next ≡ true → next ≡ Nx.Close
is_close_lem Nx.Continue e = absurd (false≢true e)
is_close_lem Nx.Close e = refl
is_close_lem Nx.Stop e = absurd (false≢true e)
is_close_lem Nx.TooLong e = absurd (false≢true e)

-- another chunk follows a full one only, and not the last that is read
pub continue_full : {E : Type 0} (full room : ℕ) (all : Bool) (chunk : Result Chunk E) → ChunkWithin room chunk → is_continue (after_chunk full all chunk) ≡ true
    → (chunk_bytes chunk ≡ room) × (full < chunks_most - 1)
continue_full full room false chunk w e = absurd (false≢true e)
continue_full full room true (Err x) w e = absurd (false≢true e)
continue_full full room true (Ok (Ch.Full n)) w e = (w, ltb-true full (chunks_most - 1) (chosen (ltb full (chunks_most - 1)) e))
  where
    chosen : (b : Bool) → is_continue (cond b Nx.Continue Nx.TooLong) ≡ true → b ≡ true
    chosen true q = refl
    chosen false q = absurd (false≢true q)
continue_full full room true (Ok (Ch.Last n)) w e = absurd (false≢true e)
