-- Document 01: the shot entry gives the record's refusals 11 to 15, then 16, else one shot's values.
use Rattle.std.specs.Prelude.{ℕ, ◌-◌, List}
use Rattle.octets.specs.Refusal.{◌then◌, Said, say}
use Rattle.layout.specs.Column.{value, item}
use Rattle.pedr_layout.specs.Layout as columns
use Rattle.pedr_flags.specs.Quality.{good_shot}
use Rattle.pedr_flags.specs.Descriptor.{failures_of}
use Rattle.pedr_flags.specs.Class.{class_of}
use Rattle.pedr_flags.specs.Encoder.{encoder_of}
use Rattle.pedr_flags.specs.Shot.{flags_refusal}
use Rattle.pedr_check.specs.Refusal.{record_refusal}
use Rattle.pedr_shot.specs.declared.ShotFields.{ShotFields}

-- shot k (1 to 20) is item k - 1 of each column of 20, counted from 0
unfoldable pub shot_of : List ℕ → ℕ → ShotFields
shot_of s k =
    record {
      radius = item s columns.radius (k - 1);
      energy = item s columns.energy (k - 1);
      reflectivity = item s columns.reflectivity (k - 1);
      trigger_channel = item s columns.trigger_channel (k - 1);
      pulse_width = item s columns.pulse_width (k - 1);
      optical_width = item s columns.optical_width (k - 1);
      laser_power = item s columns.laser_power (k - 1);
      class = class_of (item s columns.class (k - 1));
      encoder = encoder_of (item s columns.encoder (k - 1));
      good = good_shot (value s columns.quality_number) k;
      failures = failures_of s k;
    }

-- 11 to 15, then 16: shot not 1 to 20
unfoldable pub shot_refusal : List ℕ → ℕ → ℕ
shot_refusal s k = record_refusal s then flags_refusal k

-- what is due of the shot entry
abbrev pub shot_due : List ℕ → ℕ → Said ShotFields
shot_due s k = say (shot_refusal s k) (shot_of s k)
