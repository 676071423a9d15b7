-- Document 01, "Refusal numbers": the reader gives the record's refusal, else its fields. Request 2: the answer says which frame it is and carries that frame's
-- fields; its runs of items and carried bytes stand beside.
use Rattle.std.specs.Prelude.{ℕ, List}
use Rattle.octets.specs.Refusal.{Said, refused, answered, say, after}
use Rattle.pedr_check.specs.Refusal.{record_refusal}
use Rattle.pedr_fields.specs.Fields.{fields_of}
use Rattle.pedr_fields.specs.declared.RecordFields.{RecordFields}
use Rattle.pedr_block.specs.Block.{block_of}
use Rattle.pedr_block.specs.declared.Block.{Block}
use Rattle.pedr_block_runs.specs.Runs.{runs_of, no_runs}
use Rattle.pedr_block_runs.specs.Carried.{carried_of, no_carried}
use Rattle.pedr_block_runs.specs.declared.BlockRuns.{BlockRuns}
use Rattle.pedr_arrays.specs.Arrays.{arrays_of, no_arrays}
use Rattle.pedr_arrays.specs.Uninterpreted.{uninterpreted_of, no_uninterpreted}
use Rattle.pedr_arrays.specs.declared.RecordArrays.{RecordArrays}
use Rattle.pedr.specs.declared.Record.{Record}

-- what is said of a record, part by part: its fields and block, its arrays, the block's runs and carried bytes, the uninterpreted bytes. Beside a refusal stand
-- zeros.
abbrev pub fields_in : Said Record → Said (RecordFields × Block)
fields_in (refused n) = refused n
fields_in (answered r) = answered (r.fields, r.block)

abbrev pub arrays_in : Said Record → RecordArrays
arrays_in (refused n) = no_arrays
arrays_in (answered r) = r.arrays

abbrev pub runs_in : Said Record → BlockRuns
runs_in (refused n) = no_runs
runs_in (answered r) = r.runs

abbrev pub carried_in : Said Record → List ℕ
carried_in (refused n) = no_carried
carried_in (answered r) = r.carried

abbrev pub uninterpreted_in : Said Record → List ℕ
uninterpreted_in (refused n) = no_uninterpreted
uninterpreted_in (answered r) = r.uninterpreted

-- what is due of each part
abbrev pub read_due : List ℕ → Said (RecordFields × Block)
read_due s = say (record_refusal s) (fields_of s, block_of s)

abbrev pub read_arrays : List ℕ → RecordArrays
read_arrays s = after (record_refusal s) (arrays_of s) no_arrays

abbrev pub read_runs : List ℕ → BlockRuns
read_runs s = after (record_refusal s) (runs_of s) no_runs

abbrev pub read_carried : List ℕ → List ℕ
read_carried s = after (record_refusal s) (carried_of s) no_carried

abbrev pub read_uninterpreted : List ℕ → List ℕ
read_uninterpreted s = after (record_refusal s) (uninterpreted_of s) no_uninterpreted
