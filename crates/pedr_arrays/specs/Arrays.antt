-- Document 01, "PEDR record": the columns of several items, by the table of the layout.
use Rattle.std.specs.Prelude.{ℕ, List, false, pos, replicate}
use Rattle.octets.specs.Table.{table}
use Rattle.layout.specs.Column.{item, values}
use Rattle.pedr_layout.specs.Layout as columns
use Rattle.pedr_flags.specs.Class.{class_of}
use Rattle.pedr_flags.specs.Encoder.{encoder_of}
use Rattle.pedr_flags.specs.Descriptor.{all_failures_of}
use Rattle.pedr_flags.specs.declared.Class.{Class}
use Rattle.pedr_flags.specs.declared.Encoder.{Encoder}
use Rattle.pedr_flags.specs.declared.ShotFailures.{ShotFailures}
use Rattle.pedr_arrays.specs.declared.ShotArrays.{ShotArrays}
use Rattle.pedr_arrays.specs.declared.ChannelArrays.{ChannelArrays}
use Rattle.pedr_arrays.specs.declared.RecordArrays.{RecordArrays}

-- the 20 classes and encoder bits; shot s stands at index s - 1
unfoldable pub classes_of : List ℕ → List Class
classes_of s = table columns.shot_count (λ k. class_of (item s columns.class k))

unfoldable pub encoders_of : List ℕ → List Encoder
encoders_of s = table columns.shot_count (λ k. encoder_of (item s columns.encoder k))

-- the columns of 20 shots
unfoldable pub shot_arrays_of : List ℕ → ShotArrays
shot_arrays_of s =
    record {
      radius = values s columns.radius;
      energy = values s columns.energy;
      reflectivity = values s columns.reflectivity;
      trigger_channel = values s columns.trigger_channel;
      pulse_width = values s columns.pulse_width;
      optical_width = values s columns.optical_width;
      laser_power = values s columns.laser_power;
      class = classes_of s;
      encoder = encoders_of s;
      failures = all_failures_of s;
    }

-- the columns of 4 channels in each half of the frame
unfoldable pub channel_arrays_of : List ℕ → ChannelArrays
channel_arrays_of s = record { noise = values s columns.noise; thresholds = values s columns.thresholds }

unfoldable pub arrays_of : List ℕ → RecordArrays
arrays_of s =
    record {
      shots = shot_arrays_of s;
      channels = channel_arrays_of s;
      xyz = values s columns.xyz;
      source_header = values s columns.source_header;
    }

-- the arrays of a refusal: all zeros
abbrev pub no_failures : ShotFailures
no_failures = record { power = false; energy = false; range = false; window = false; comparison = false }

abbrev pub no_shot_arrays : ShotArrays
no_shot_arrays =
    record {
      radius = replicate columns.shot_count 0;
      energy = replicate columns.shot_count 0;
      reflectivity = replicate columns.shot_count 0;
      trigger_channel = replicate columns.shot_count 0;
      pulse_width = replicate columns.shot_count 0;
      optical_width = replicate columns.shot_count 0;
      laser_power = replicate columns.shot_count 0;
      class = replicate columns.shot_count (class_of 0);
      encoder = replicate columns.shot_count (encoder_of 0);
      failures = replicate columns.shot_count no_failures;
    }

unfoldable pub no_arrays : RecordArrays
no_arrays =
    record {
      shots = no_shot_arrays;
      channels = record { noise = replicate 8 0; thresholds = replicate 8 0 };
      xyz = replicate 3 (pos 0);
      source_header = replicate 2 0;
    }
