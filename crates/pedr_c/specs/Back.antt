-- The arrays that numbers stand for: each class is that of its number.
use Rattle.std.specs.Prelude.{map}
use Rattle.pedr_flags.specs.Class.{class_of}
use Rattle.pedr_arrays.specs.declared.ShotArrays.{ShotArrays}
use Rattle.pedr_arrays.specs.declared.RecordArrays.{RecordArrays}
use Rattle.pedr_c.specs.declared.ShotNumbers.{ShotNumbers}
use Rattle.pedr_c.specs.declared.ArrayNumbers.{ArrayNumbers}

unfoldable pub shots_of_numbers : ShotNumbers → ShotArrays
shots_of_numbers n =
    record {
      radius = n.radius;
      energy = n.energy;
      reflectivity = n.reflectivity;
      trigger_channel = n.trigger_channel;
      pulse_width = n.pulse_width;
      optical_width = n.optical_width;
      laser_power = n.laser_power;
      class = map class_of n.class_number;
      encoder = n.encoder;
      failures = n.failures;
    }

unfoldable pub arrays_of_numbers : ArrayNumbers → RecordArrays
arrays_of_numbers n =
    record {
      shots = shots_of_numbers n.shots;
      channels = n.channels;
      xyz = n.xyz;
      source_header = n.source_header;
    }
