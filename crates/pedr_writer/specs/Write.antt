-- Requests 1 and 2: what is due of the writer. A refusal writes no byte.
use Rattle.std.specs.Prelude.{ℕ, List}
use Rattle.octets.specs.Refusal.{Said, say, after}
use Rattle.pedr_arrays.specs.declared.RecordArrays.{RecordArrays}
use Rattle.pedr_fields.specs.declared.RecordFields.{RecordFields}
use Rattle.pedr_block.specs.declared.Block.{Block}
use Rattle.pedr_block_runs.specs.declared.BlockRuns.{BlockRuns}
use Rattle.pedr_write_refusal.specs.Refusal.{write_refusal}
use Rattle.pedr_writer.specs.Record.{record_of}

-- what is due of the writer, and the bytes then in the output
abbrev pub write_due : RecordFields → Block → RecordArrays → List ℕ → List ℕ → List ℕ → Said (Unit {0})
write_due f b a carried x out = say (write_refusal f b a carried x out) tt

abbrev pub write_bytes : RecordFields → Block → RecordArrays → BlockRuns → List ℕ → List ℕ → List ℕ → List ℕ
write_bytes f b a r carried x out = after (write_refusal f b a carried x out) (record_of f b a r carried x) out
