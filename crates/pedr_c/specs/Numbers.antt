-- The PEDR record's answers in structs of numbers, for callers in languages that have no such enums. A class is its number of document 01.
use Rattle.std.specs.Prelude.{ℕ, List, map}
use Rattle.octets.specs.Refusal.{Said, refused, answered, refusal_in}
use Rattle.pedr_flags.specs.Class.{class_number}
use Rattle.pedr_arrays.specs.declared.ShotArrays.{ShotArrays}
use Rattle.pedr_arrays.specs.declared.RecordArrays.{RecordArrays}
use Rattle.pedr_fields.specs.declared.RecordFields.{RecordFields}
use Rattle.pedr_block.specs.declared.Block.{Block}
use Rattle.pedr_block_runs.specs.declared.BlockRuns.{BlockRuns}
use Rattle.pedr_block_c.specs.Numbers.{no_block, block_numbers}
use Rattle.pedr_block_c.specs.declared.BlockNumbers.{BlockNumbers}
use Rattle.pedr_c.specs.Refused.{no_fields}
use Rattle.pedr_c.specs.declared.ShotNumbers.{ShotNumbers}
use Rattle.pedr_c.specs.declared.ArrayNumbers.{ArrayNumbers}
use Rattle.pedr_c.specs.declared.RecordNumbers.{RecordNumbers}

unfoldable pub shot_numbers : ShotArrays → ShotNumbers
shot_numbers a =
    record {
      radius = a.radius;
      energy = a.energy;
      reflectivity = a.reflectivity;
      trigger_channel = a.trigger_channel;
      pulse_width = a.pulse_width;
      optical_width = a.optical_width;
      laser_power = a.laser_power;
      class_number = map class_number a.class;
      encoder = a.encoder;
      failures = a.failures;
    }

unfoldable pub array_numbers : RecordArrays → ArrayNumbers
array_numbers a =
    record {
      shots = shot_numbers a.shots;
      channels = a.channels;
      xyz = a.xyz;
      source_header = a.source_header;
    }

abbrev pub fields_in : Said (RecordFields × Block) → RecordFields
fields_in (refused n) = no_fields
fields_in (answered x) = x.0

abbrev pub block_in : Said (RecordFields × Block) → BlockNumbers
block_in (refused n) = no_block
block_in (answered x) = block_numbers x.1

-- what is said of a record, with its arrays, its block's runs and carried bytes, and its uninterpreted bytes
abbrev pub record_numbers : Said (RecordFields × Block) → RecordArrays → BlockRuns → List ℕ → List ℕ → RecordNumbers
record_numbers said a r c u =
    record {
      refusal = refusal_in said;
      fields = fields_in said;
      block = block_in said;
      arrays = array_numbers a;
      runs = r;
      carried = c;
      uninterpreted = u;
    }
