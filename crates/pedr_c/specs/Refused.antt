-- The answers of a refusal: its number, and zeros.
use Rattle.std.specs.Prelude.{ℕ, false, pos, replicate}
use Rattle.pedr_layout.specs.Layout.{shot_count}
use Rattle.pedr_layout.specs.Block.{carried_most}
use Rattle.pedr_flags.specs.Encoder.{encoder_of}
use Rattle.pedr_arrays.specs.Arrays.{no_failures}
use Rattle.pedr_arrays.specs.Uninterpreted.{uninterpreted_count}
use Rattle.pedr_flags.specs.declared.Descriptor.{Descriptor}
use Rattle.pedr_fields.specs.declared.OrbitPosition.{OrbitPosition}
use Rattle.pedr_fields.specs.declared.Receiver.{Receiver}
use Rattle.pedr_fields.specs.declared.RecordFields.{RecordFields}
use Rattle.pedr_block_runs.specs.Runs.{no_runs}
use Rattle.pedr_block_c.specs.Numbers.{no_block}
use Rattle.pedr_c.specs.declared.ArrayNumbers.{ArrayNumbers}
use Rattle.pedr_c.specs.declared.RecordNumbers.{RecordNumbers}

abbrev pub no_position : OrbitPosition
no_position =
    record {
      orbit = 0;
      latitude = pos 0;
      longitude = pos 0;
      radial_distance = 0;
      ground_latitude = pos 0;
      ground_longitude = pos 0;
    }

abbrev pub no_descriptor : Descriptor
no_descriptor = record { packet_sum = false; software_sum = false; mode = false; ots = false; carried = 0 }

abbrev pub no_receiver : Receiver
no_receiver = record { channel_mask = 0; minimum_hits = 0; hit_count = 0; frame_counter = 0; trigger = 0; frame_index = 0 }

abbrev pub no_fields : RecordFields
no_fields =
    record {
      time = record { whole = pos 0; micros = pos 0 };
      position = no_position;
      quality = record { good = 0; carried = 0; counter = 0 };
      descriptor = no_descriptor;
      pointing = record { right_ascension = pos 0; declination = pos 0; twist = pos 0 };
      ranges = record { mid_point_range = 0; frame_radius = 0; delay = 0; width = 0 };
      receiver = no_receiver;
      link = record { seconds = pos 0; millis = pos 0; fine_time = 0 };
    }

unfoldable pub no_numbers : ArrayNumbers
no_numbers =
    record {
      shots =
          record {
            radius = replicate shot_count 0;
            energy = replicate shot_count 0;
            reflectivity = replicate shot_count 0;
            trigger_channel = replicate shot_count 0;
            pulse_width = replicate shot_count 0;
            optical_width = replicate shot_count 0;
            laser_power = replicate shot_count 0;
            class_number = replicate shot_count 0;
            encoder = replicate shot_count (encoder_of 0);
            failures = replicate shot_count no_failures;
          };
      channels = record { noise = replicate 8 0; thresholds = replicate 8 0 };
      xyz = replicate 3 (pos 0);
      source_header = replicate 2 0;
    }

unfoldable pub refused_record : ℕ → RecordNumbers
refused_record n =
    record {
      refusal = n;
      fields = no_fields;
      block = no_block;
      arrays = no_numbers;
      runs = no_runs;
      carried = replicate carried_most 0;
      uninterpreted = replicate uninterpreted_count 0;
    }
