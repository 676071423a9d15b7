-- What follows a chunk.
use Rattle.std.specs.Prelude.{ℕ, ◌-◌, ◌^◌, Bool, true, false, cond, ltb, Result, Ok, Err}
use Rattle.program_input.specs.declared.Chunk.{Chunk}
use Rattle.program_input.specs.declared.Chunk.TheVariants as Ch
use Rattle.program_io.specs.declared.Next.{Next}
use Rattle.program_io.specs.declared.Next.TheVariants as Nx

-- the most chunks that are read: a loop has to end, and nothing says that the input does
abbrev pub chunks_most : ℕ
chunks_most = 2 ^ 40

-- after `full` chunks and another full one
abbrev pub after_full : ℕ → Next
after_full full = cond (ltb full (chunks_most - 1)) Nx.Continue Nx.TooLong

-- After `full` chunks and this one, by whether all of its text was written. Nothing more is printed after a failed read, nor after a failed write.
abbrev pub after_chunk : {E : Type 0} → ℕ → Bool → Result Chunk E → Next
after_chunk full false chunk = Nx.Stop
after_chunk full true (Err e) = Nx.Stop
after_chunk full true (Ok (Ch.Full n)) = after_full full
after_chunk full true (Ok (Ch.Last n)) = Nx.Close

abbrev pub is_continue : Next → Bool
is_continue Nx.Continue = true
is_continue Nx.Close = false
is_continue Nx.Stop = false
is_continue Nx.TooLong = false

abbrev pub is_close : Next → Bool
is_close Nx.Continue = false
is_close Nx.Close = true
is_close Nx.Stop = false
is_close Nx.TooLong = false
