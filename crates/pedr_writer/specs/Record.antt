-- Requests 1 and 2: every field read, the carried bits, the engineering block of the frame and the uninterpreted bytes. The bytes of the record's columns, in
-- the order of its table.
use Rattle.std.specs.Prelude.{ℕ, List, [], ◌∷◌, ◌++◌, map, take, drop}
use Rattle.layout.specs.Column.{holding_all, join}
use Rattle.pedr_layout.specs.Layout as columns
use Rattle.pedr_flags_writer.specs.Encoder.{encoder_byte}
use Rattle.pedr_flags.specs.declared.Encoder.{Encoder}
use Rattle.pedr_arrays.specs.declared.RecordArrays.{RecordArrays}
use Rattle.pedr_fields.specs.declared.RecordFields.{RecordFields}
use Rattle.pedr_block.specs.declared.Block.{Block}
use Rattle.pedr_block_runs.specs.declared.BlockRuns.{BlockRuns}
use Rattle.pedr_block_writer.specs.Rows.{block_octets}
use Rattle.pedr_segments.specs.Parts.{head_parts, radii_parts, pulse_parts, ground_parts, gate_parts, receiver_parts, link_parts}

-- bytes 537 to 776: the uninterpreted bytes on both sides of the encoder bytes
abbrev pub tail_parts : List Encoder → List ℕ → List (List ℕ)
tail_parts es x =
    take (columns.uninterpreted537).items x
    ∷ holding_all columns.encoder (map encoder_byte es)
    ∷ drop (columns.uninterpreted537).items x
    ∷ []

-- all of them; bytes 509 to 536 are the block's
abbrev pub record_parts : RecordFields → Block → RecordArrays → BlockRuns → List ℕ → List ℕ → List (List ℕ)
record_parts f b a r carried x =
    head_parts f
    ++ (radii_parts f a.shots
    ++ (pulse_parts a.shots
    ++ (ground_parts f a
    ++ (gate_parts f a.channels
    ++ (receiver_parts f
    ++ (link_parts f a.source_header
    ++ block_octets b r carried ∷ tail_parts a.shots.encoder x))))))

-- the record's 776 bytes
unfoldable pub record_of : RecordFields → Block → RecordArrays → BlockRuns → List ℕ → List ℕ → List ℕ
record_of f b a r carried x = join (record_parts f b a r carried x)
