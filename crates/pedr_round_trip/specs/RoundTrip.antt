-- Request 1: demand 2 then covers the record both ways: an accepted record read and written is the same bytes. Request 2: with the engineering block of its
-- frame.
use Rattle.std.specs.Prelude.{ℕ, ◌≡◌, List, eqb, length}
use Rattle.octets.specs.Bytes.{Octets}
use Rattle.octets.specs.Refusal.{refuse◌unless◌else◌, ◌then◌, Said, answered, say, after}
use Rattle.pedr_layout.specs.Layout as columns
use Rattle.pedr_flags.specs.Quality.{good_count}
use Rattle.pedr_arrays.specs.Arrays.{arrays_of, no_arrays}
use Rattle.pedr_arrays.specs.Uninterpreted.{uninterpreted_of, no_uninterpreted}
use Rattle.pedr_fields.specs.Fields.{fields_of}
use Rattle.pedr_arrays.specs.declared.RecordArrays.{RecordArrays}
use Rattle.pedr_fields.specs.declared.RecordFields.{RecordFields}
use Rattle.pedr_check.specs.Refusal.{record_refusal}
use Rattle.pedr_block.specs.Block.{block_of}
use Rattle.pedr_block.specs.declared.Block.{Block}
use Rattle.pedr_block_runs.specs.Runs.{runs_of, no_runs}
use Rattle.pedr_block_runs.specs.Carried.{no_carried}
use Rattle.pedr_block_runs.specs.declared.BlockRuns.{BlockRuns}
use Rattle.pedr_block_round_trip.specs.Kept.{own_carried, kept_runs, kept_carried, TypedBlock}
use Rattle.pedr_write_refusal.specs.Refusal.{write_refusal}
use Rattle.pedr_writer.specs.Record.{record_of}
use Rattle.pedr.specs.Read.{read_due, read_arrays, read_runs, read_carried, read_uninterpreted}
use Rattle.pedr_round_trip.specs.Typed.{TypedFields, TypedArrays}

-- writing what was read of an accepted record, with as many carried bytes as its block's layout leaves, is not refused, and gives its bytes back
abbrev pub WritesBack : Type 0
WritesBack =
    (s out : List ℕ) → Octets s → record_refusal s ≡ 0 → length out ≡ columns.record_size
    → (write_refusal (fields_of s) (block_of s) (arrays_of s) (own_carried s) (uninterpreted_of s) out ≡ 0)
    × (record_of (fields_of s) (block_of s) (arrays_of s) (runs_of s) (own_carried s) (uninterpreted_of s) ≡ s)

-- the fields with the counter that the writer works out
abbrev pub counted : RecordFields → RecordFields
counted f =
    record {
      time = f.time;
      position = f.position;
      quality = record { good = f.quality.good; carried = f.quality.carried; counter = good_count f.quality.good };
      descriptor = f.descriptor;
      pointing = f.pointing;
      ranges = f.ranges;
      receiver = f.receiver;
      link = f.link;
    }

-- reading what was written is not refused, and gives back what was given: the counter is the ones of good, runs and items that the frame lacks are zeros, and
-- zeros stand behind the carried bytes
abbrev pub ReadsBack : Type 0
ReadsBack =
    (f : RecordFields) (b : Block) (a : RecordArrays) (r : BlockRuns) (c x out : List ℕ) → TypedFields f → TypedBlock b r c → TypedArrays a
    → write_refusal f b a c x out ≡ 0
    → (read_due (record_of f b a r c x) ≡ answered (counted f, b))
    × (read_arrays (record_of f b a r c x) ≡ a)
    × (read_runs (record_of f b a r c x) ≡ kept_runs b r)
    × (read_carried (record_of f b a r c x) ≡ kept_carried c)
    × (read_uninterpreted (record_of f b a r c x) ≡ x)

-- reading and writing again: the reader's refusals, then 41 for an output that is not 776 bytes
unfoldable pub copy_refusal : List ℕ → List ℕ → ℕ
copy_refusal s out = record_refusal s then refuse 41 unless eqb (length out) columns.record_size else 0

abbrev pub copy_due : List ℕ → List ℕ → Said (Unit {0})
copy_due s out = say (copy_refusal s out) tt

abbrev pub copy_bytes : List ℕ → List ℕ → List ℕ
copy_bytes s out = after (copy_refusal s out) s out

-- writing and reading again: the writer's refusals, else what was given
module _ (f : RecordFields) (b : Block) (a : RecordArrays) (r : BlockRuns) (c x out : List ℕ) where
  abbrev pub echo_due : Said (RecordFields × Block)
  echo_due = say (write_refusal f b a c x out) (counted f, b)

  abbrev pub echo_arrays : RecordArrays
  echo_arrays = after (write_refusal f b a c x out) a no_arrays

  abbrev pub echo_runs : BlockRuns
  echo_runs = after (write_refusal f b a c x out) (kept_runs b r) no_runs

  abbrev pub echo_carried : List ℕ
  echo_carried = after (write_refusal f b a c x out) (kept_carried c) no_carried

  abbrev pub echo_uninterpreted : List ℕ
  echo_uninterpreted = after (write_refusal f b a c x out) x no_uninterpreted
