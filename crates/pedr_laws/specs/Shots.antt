-- The shot entry and the record's reader say the same of a shot.
use Rattle.std.specs.Prelude.{ℕ, ◌-◌, ◌≤◌, ◌≡◌, List, get_or}
use Rattle.pedr_layout.specs.Layout.{shot_count}
use Rattle.pedr_flags.specs.Quality.{good_shot}
use Rattle.pedr_flags.specs.Class.{class_of}
use Rattle.pedr_flags.specs.Encoder.{encoder_of}
use Rattle.pedr_fields.specs.Fields.{fields_of}
use Rattle.pedr_arrays.specs.Arrays.{no_failures, arrays_of}
use Rattle.pedr_fields.specs.declared.RecordFields.{RecordFields}
use Rattle.pedr_arrays.specs.declared.RecordArrays.{RecordArrays}
use Rattle.pedr_shot.specs.Shot.{shot_of}
use Rattle.pedr_shot.specs.declared.ShotFields.{ShotFields}

-- shot k taken from a record's fields and arrays, where it stands at index k - 1
unfoldable pub shot_from : RecordFields → RecordArrays → ℕ → ShotFields
shot_from f a k =
    record {
      radius = get_or a.shots.radius (k - 1) 0;
      energy = get_or a.shots.energy (k - 1) 0;
      reflectivity = get_or a.shots.reflectivity (k - 1) 0;
      trigger_channel = get_or a.shots.trigger_channel (k - 1) 0;
      pulse_width = get_or a.shots.pulse_width (k - 1) 0;
      optical_width = get_or a.shots.optical_width (k - 1) 0;
      laser_power = get_or a.shots.laser_power (k - 1) 0;
      class = get_or a.shots.class (k - 1) (class_of 0);
      encoder = get_or a.shots.encoder (k - 1) (encoder_of 0);
      good = good_shot f.quality.good k;
      failures = get_or a.shots.failures (k - 1) no_failures;
    }

-- for any bytes and each shot from 1 to 20
abbrev pub ShotsAgree : Type 0
ShotsAgree = (s : List ℕ) (k : ℕ) → 1 ≤ k → k ≤ shot_count → shot_from (fields_of s) (arrays_of s) k ≡ shot_of s k
