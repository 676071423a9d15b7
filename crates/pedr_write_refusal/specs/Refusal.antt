-- Requests 1 and 2, the refusals of the writer, in order: 13 to 15, 40, 49, 41, 42.
use Rattle.std.specs.Prelude.{ℕ, List, eqb, length}
use Rattle.octets.specs.Refusal.{refuse◌unless◌else◌, ◌then◌}
use Rattle.pedr_layout.specs.Layout as columns
use Rattle.pedr_arrays.specs.declared.RecordArrays.{RecordArrays}
use Rattle.pedr_arrays.specs.Uninterpreted.{uninterpreted_count}
use Rattle.pedr_fields.specs.declared.RecordFields.{RecordFields}
use Rattle.pedr_block.specs.Block.{frame_number, carried_count}
use Rattle.pedr_block.specs.declared.Block.{Block}
use Rattle.pedr_write_check.specs.Refusal.{given_refusal}

-- 49: carried block bytes not as many as the given block's layout leaves, or uninterpreted bytes not 220. 41: output not of 776 bytes. 42: block and frame
-- index disagree
unfoldable pub write_refusal : RecordFields → Block → RecordArrays → List ℕ → List ℕ → List ℕ → ℕ
write_refusal f b a carried x out =
    given_refusal f a then
    refuse 49 unless eqb (length carried) (carried_count b) else
    refuse 49 unless eqb (length x) uninterpreted_count else
    refuse 41 unless eqb (length out) columns.record_size else
    refuse 42 unless eqb (frame_number b) f.receiver.frame_index else
    0
