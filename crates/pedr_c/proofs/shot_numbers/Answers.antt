-- Column by column; the classes by the numbers given.
use Rattle.pedr_c.specs.Numbers.{shot_numbers}
use Rattle.pedr_c.proofs.shot_numbers.Goals as goal

pub returns : goal.returns
unfolding shot_numbers
returns c =
    let s = c in
    let a = s.args.arrays in
    λ i. record {
      radius = a.radius;
      energy = a.energy;
      reflectivity = a.reflectivity;
      trigger_channel = a.trigger_channel;
      pulse_width = a.pulse_width;
      optical_width = a.optical_width;
      laser_power = a.laser_power;
      class_number = s.requires i;
      encoder = a.encoder;
      failures = a.failures;
    }
