-- Request 1: 40 is for a class given as unassigned with number 0 or 1. Where each class is given by its number, as from C, no record is refused with it.
use Rattle.std.specs.Prelude.{ℕ, ◌≡◌, List}
use Rattle.pedr_fields.specs.declared.RecordFields.{RecordFields}
use Rattle.pedr_block.specs.declared.Block.{Block}
use Rattle.pedr_write_refusal.specs.Refusal.{write_refusal}
use Rattle.pedr_c.specs.Back.{arrays_of_numbers}
use Rattle.pedr_c.specs.declared.ArrayNumbers.{ArrayNumbers}

abbrev pub NoClassRefused : Type 0
NoClassRefused = (f : RecordFields) (b : Block) (n : ArrayNumbers) (c x out : List ℕ) → write_refusal f b (arrays_of_numbers n) c x out ≡ 40 → ⊥
