-- Laws of the count that goes on from chunk to chunk.
use Prim.Native.Nat.{ℕ, ◌+◌, ◌-◌, ◌*◌, ◌<◌, ◌≤◌}
use mathlib.Core.Path.{◌≡◌, refl, sym, ap, ◌∙◌}
use mathlib.Core.Bool.{Bool, true, false}
use mathlib.Core.List.{List}
use native.Mathlib.Omega.{arith}
use Rattle.std.proofs.Common.{Result}
use Rattle.program_output.specs.declared.Unwritten.{Unwritten}
use Rattle.program_io.specs.declared.Next.{Next}
use Rattle.program_io.specs.declared.Next.TheVariants.{Continue, Close, Stop, TooLong}
use Rattle.program_input.specs.Chunk.{chunk_bytes}
use Rattle.program_output.specs.Written.{is_whole}
use Rattle.program_io.specs.Next.{chunks_most, after_chunk, is_continue, is_close}
use Rattle.program_input.proofs.Reading.{count_fits}
use Rattle.program_io.proofs.Following.{is_continue_lem, is_close_lem, continue_full}
use Rattle.aedr.specs.Printed.{pieces_in}
use Rattle.aedr.specs.Chunks.{chunk_pieces, chunk_size}
use Rattle.aedr_io.specs.declared.Progress.{Progress}
use Rattle.aedr_io.specs.declared.Chunks.{Chunks}
use Rattle.aedr_io.specs.Check.{records_after, ChunkPrinted, ChunksPrinted, FileChecked}

-- a chunk adds no piece or all of its own
records_low : (next : Next) (done n : ℕ) → done ≤ records_after next done n
records_low Continue done n = omega arith
records_low Close done n = omega arith
records_low Stop done n = omega arith
records_low TooLong done n = omega arith

records_high : (next : Next) (done n : ℕ) → records_after next done n ≤ done + pieces_in n
records_high Continue done n = omega arith
records_high Close done n = omega arith
records_high Stop done n = omega arith
records_high TooLong done n = omega arith

module _ (p : Progress) (full done : ℕ) (buf out : List ℕ) (h : ChunkPrinted p full done buf out) where
  low : done ≤ p.records
  low = omega (arith, h.records, records_low p.next done (chunk_bytes p.chunk))

  high : p.records ≤ done + chunk_pieces
  high =
      omega (arith, h.records, records_high p.next done (chunk_bytes p.chunk), count_fits p.chunk chunk_size h.within)

  -- one that another follows
  pub goes_on : is_continue p.next ≡ true → done ≡ chunk_pieces * full → (p.records ≡ chunk_pieces * (full + 1)) × (full < chunks_most - 1)
  goes_on e d =
      let n : p.next ≡ Continue = is_continue_lem p.next e in
      let f = continue_full full chunk_size (is_whole p.printed) p.chunk h.within (ap is_continue (sym h.next) ∙ e) in
      let r : p.records ≡ records_after Continue done chunk_size =
      h.records ∙ ap (λ (k : Next). records_after k done (chunk_bytes p.chunk)) n ∙ ap (records_after Continue done) f.0 in
      (omega arith, f.1)

  -- the last
  pub ends : is_continue p.next ≡ false → done ≡ chunk_pieces * full → full < chunks_most → ChunksPrinted (record { full = full; last = p }) buf out
  ends e d l = record { last = rw d at h; ended = e; most = omega (arith, high) }

  -- the last that ended the input
  pub all_pieces : is_close p.next ≡ true → done ≡ chunk_pieces * full → p.records ≡ pieces_in (chunk_size * full + chunk_bytes p.chunk)
  all_pieces e d =
      let r : p.records ≡ records_after Close done (chunk_bytes p.chunk) =
      h.records ∙ ap (λ (k : Next). records_after k done (chunk_bytes p.chunk)) (is_close_lem p.next e) in
      omega arith

-- the check, before its closing line and with it
module _ (r : Chunks) (buf out : List ℕ) (h : ChunksPrinted r buf out) where
  pub closed : is_close r.last.next ≡ true → (complete : Bool) (printed : Result Unit Unwritten) → complete ≡ is_close (after_chunk r.full (is_whole printed) r.last.chunk)
      → FileChecked (record { records = r.last.records; complete = complete; full = r.full; chunk = r.last.chunk; printed = printed })
  closed e complete printed w = record {
    within = h.last.within;
    complete = w;
    most = h.most;
    low = low r.last r.full (chunk_pieces * r.full) buf out h.last;
    high = high r.last r.full (chunk_pieces * r.full) buf out h.last;
    pieces = λ c. all_pieces r.last r.full (chunk_pieces * r.full) buf out h.last e refl;
  }
