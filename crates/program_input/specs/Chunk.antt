-- What the reads of a chunk make of it.
use Rattle.std.specs.Prelude.{ℕ, ◌+◌, ◌<◌, ◌≡◌, cond, eqb, ltb, List, take, Option, Result, Ok, Err}
use Rattle.std.specs.declared.ops.ControlFlow.{ControlFlow}
use Rattle.std.specs.declared.ops.ControlFlow.TheVariants.{Continue, Break}
use Rattle.std.specs.Io.KnownBytes.{Consumes, IsAtEnd}
use Rattle.program_input.specs.declared.Chunk.{Chunk}
use Rattle.program_input.specs.declared.Chunk.TheVariants.{Full, Last}

-- What follows a read after `count` bytes, in a buffer of `room` bytes: a failed one ends the chunk as a failure, one of no byte has found the end of the input,
-- so that the chunk is the last, with the bytes before it; after any other the chunk is full where its bytes reach the room, and else another read follows.
abbrev pub after_read : {E : Type 0} → ℕ → Result ℕ E → ℕ → ControlFlow (Result Chunk E) ℕ
after_read count (Err e) room = Break (Err e)
after_read count (Ok n) room = cond (eqb n 0) (Break (Ok (Last count))) (cond (ltb (count + n) room) (Continue (count + n)) (Break (Ok (Full (count + n)))))

-- a full chunk has all the bytes of the buffer, and the input's last leaves room
abbrev pub ChunkWithin : {E : Type 0} → ℕ → Result Chunk E → Type 0
ChunkWithin room (Ok (Full n)) = n ≡ room
ChunkWithin room (Ok (Last n)) = n < room
ChunkWithin room (Err e) = Unit

-- the bytes of a chunk, at the start of the buffer; none after a failed read
abbrev pub chunk_bytes : {E : Type 0} → Result Chunk E → ℕ
chunk_bytes (Ok (Full n)) = n
chunk_bytes (Ok (Last n)) = n
chunk_bytes (Err e) = 0

-- What the reads of a chunk did to the bytes that a reader has left, where those are known: the next of them stand at the start of the buffer, all that were left
-- where the input ended.
abbrev pub ChunkTakes : {E : Type 0} → Option (List ℕ) → Option (List ℕ) → Result Chunk E → List ℕ → Type 0
ChunkTakes old new (Ok (Full n)) buf = Consumes old new (take n buf)
ChunkTakes old new (Ok (Last n)) buf = Consumes old new (take n buf) × IsAtEnd new
ChunkTakes old new (Err e) buf = (n : ℕ) × Consumes old new (take n buf)
