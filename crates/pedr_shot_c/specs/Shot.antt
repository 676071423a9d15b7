-- One shot's answer in a struct of numbers, for callers in languages that have no such enums. Its class is its number of document 01.
use Rattle.std.specs.Prelude.{false}
use Rattle.octets.specs.Refusal.{Said, refused, answered}
use Rattle.pedr_flags.specs.Class.{class_number}
use Rattle.pedr_flags.specs.Encoder.{encoder_of}
use Rattle.pedr_arrays.specs.Arrays.{no_failures}
use Rattle.pedr_shot.specs.declared.ShotFields.{ShotFields}
use Rattle.pedr_shot_c.specs.declared.OneShot.{OneShot}
use Rattle.pedr_shot_c.specs.declared.ShotRead.{ShotRead}

-- beside a refusal: zeros
abbrev pub no_shot : OneShot
no_shot =
    record {
      radius = 0;
      energy = 0;
      reflectivity = 0;
      trigger_channel = 0;
      pulse_width = 0;
      optical_width = 0;
      laser_power = 0;
      class_number = 0;
      encoder = encoder_of 0;
      good = false;
      failures = no_failures;
    }

abbrev pub one_shot : ShotFields → OneShot
one_shot f =
    record {
      radius = f.radius;
      energy = f.energy;
      reflectivity = f.reflectivity;
      trigger_channel = f.trigger_channel;
      pulse_width = f.pulse_width;
      optical_width = f.optical_width;
      laser_power = f.laser_power;
      class_number = class_number f.class;
      encoder = f.encoder;
      good = f.good;
      failures = f.failures;
    }

-- what is said of a shot
abbrev pub shot_read : Said ShotFields → ShotRead
shot_read (refused n) = record { refusal = n; shot = no_shot }
shot_read (answered f) = record { refusal = 0; shot = one_shot f }
