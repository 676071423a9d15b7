-- Request 2: the answer says which frame it is. The reader's case is that of the frame index.
use Rattle.std.specs.Prelude.{ℕ, ◌≡◌, List}
use Rattle.octets.specs.Refusal.{after}
use Rattle.layout.specs.Column.{value}
use Rattle.pedr_layout.specs.Layout.{frame_index}
use Rattle.pedr_fields.specs.Fields.{fields_of}
use Rattle.pedr_block.specs.Block.{block_of, frame_number}
use Rattle.pedr_check.specs.Refusal.{record_refusal}

-- of an accepted record
abbrev pub CaseIsIndex : Type 0
CaseIsIndex = (s : List ℕ) → record_refusal s ≡ 0 → frame_number (block_of s) ≡ (fields_of s).receiver.frame_index

-- the frame of the block that is read: an accepted record's frame index, or 0
abbrev pub frame_read : List ℕ → ℕ
frame_read s = after (record_refusal s) (value s frame_index) 0
