-- Column by column; the classes by their numbers.
use Rattle.pedr_c.specs.Back.{shots_of_numbers}
use Rattle.pedr_c.proofs.shots_of.Goals as goal

pub returns : goal.returns
unfolding shots_of_numbers
returns c =
    let a = c.args.numbers in
    λ i. record {
      radius = a.radius;
      energy = a.energy;
      reflectivity = a.reflectivity;
      trigger_channel = a.trigger_channel;
      pulse_width = a.pulse_width;
      optical_width = a.optical_width;
      laser_power = a.laser_power;
      class = c.classes_of.ensures i;
      encoder = a.encoder;
      failures = a.failures;
    }
