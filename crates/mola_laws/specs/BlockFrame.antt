-- Request 2 from C: the engineering block in numbers, its frame beside the fields of each frame.
use Rattle.std.specs.Prelude.{ℕ, ◌≤◌, ◌≡◌, List, eqb, length}
use Rattle.octets.specs.Refusal.{refuse◌unless◌else◌, ◌then◌}
use Rattle.pedr_layout.specs.Layout as columns
use Rattle.pedr_arrays.specs.Uninterpreted.{uninterpreted_count}
use Rattle.pedr_arrays.specs.declared.RecordArrays.{RecordArrays}
use Rattle.pedr_fields.specs.declared.RecordFields.{RecordFields}
use Rattle.pedr_block.specs.Block.{frame_number}
use Rattle.pedr_block.specs.declared.Block.{Block}
use Rattle.pedr_block_c.specs.Numbers.{block_numbers, block_of_numbers}
use Rattle.pedr_block_c.specs.declared.BlockNumbers.{BlockNumbers}
use Rattle.pedr_write_check.specs.Refusal.{given_refusal}
use Rattle.pedr_write_refusal.specs.Refusal.{write_refusal}

-- the numbers of a block say its frame, and are those of the same block where they are written, whatever the frame index
abbrev pub BlockKept : Type 0
BlockKept = (b : Block) (index : ℕ) → ((block_numbers b).frame ≡ frame_number b) × (block_of_numbers (block_numbers b) index ≡ b)

-- the refusal of a block whose frame is none of 1 to 7: it has no carried bytes, and is of another frame than any index
abbrev pub unknown_frame_refusal : RecordFields → RecordArrays → List ℕ → List ℕ → List ℕ → ℕ
unknown_frame_refusal f a c x out =
    given_refusal f a then
    refuse 49 unless eqb (length c) 0 else
    refuse 49 unless eqb (length x) uninterpreted_count else
    refuse 41 unless eqb (length out) columns.record_size else
    42

abbrev pub UnknownFrameRefused : Type 0
UnknownFrameRefused =
    (f : RecordFields) (n : BlockNumbers) (a : RecordArrays) (c x out : List ℕ) → (1 ≤ n.frame → n.frame ≤ 7 → ⊥)
    → write_refusal f (block_of_numbers n f.receiver.frame_index) a c x out ≡ unknown_frame_refusal f a c x out
