-- Request 1, "Precision records written", the refusals of the fields and arrays: 13 to 15 as they apply to the fields, then 40, and 49 for bits.
use Rattle.std.specs.Prelude.{ℕ, ◌-◌, ◌^◌, leb}
use Rattle.octets.specs.Refusal.{refuse◌unless◌else◌, ◌then◌}
use Rattle.octets.specs.Table.{each}
use Rattle.pedr_arrays.specs.declared.RecordArrays.{RecordArrays}
use Rattle.pedr_fields.specs.declared.RecordFields.{RecordFields}
use Rattle.pedr_check.specs.Refusal.{values_refusal}
use Rattle.pedr_codes.specs.Codes.{is_proper, has_two_bits}

-- 13, 14, 15: µs part, latitude, frame index. 40: a class given as unassigned with number 0 or 1. 49: bits given over their width (good 20, quality's
-- carried 4, descriptor's carried 24, encoder parts 2)
unfoldable pub given_refusal : RecordFields → RecordArrays → ℕ
given_refusal f a =
    values_refusal f.time.micros f.position.latitude f.receiver.frame_index then
    refuse 40 unless each is_proper a.shots.class else
    refuse 49 unless leb f.quality.good (2 ^ 20 - 1) else
    refuse 49 unless leb f.quality.carried (2 ^ 4 - 1) else
    refuse 49 unless leb f.descriptor.carried (2 ^ 24 - 1) else
    refuse 49 unless each has_two_bits a.shots.encoder else
    0
