-- Numbers and the arrays that they stand for, both ways.
use Prim.Native.Nat.{ℕ, zero, suc}
use mathlib.Core.Path.{◌≡◌, refl}
use mathlib.Core.List.{List}
use Rattle.octets.specs.Refusal.{after}
use Rattle.pedr_check.specs.Refusal.{record_refusal}
use Rattle.pedr_arrays.specs.Arrays.{shot_arrays_of, arrays_of, no_arrays}
use Rattle.pedr.specs.Read.{read_arrays}
use Rattle.pedr_c.specs.declared.ArrayNumbers.{ArrayNumbers}
use Rattle.pedr_c.specs.Numbers.{shot_numbers, array_numbers}
use Rattle.pedr_c.specs.Back.{shots_of_numbers, arrays_of_numbers}
use Rattle.pedr_c.proofs.Classes.{numbers_kept, classes_kept}

-- any numbers
pub numbers_back : (n : ArrayNumbers) → array_numbers (arrays_of_numbers n) ≡ n
unfolding shot_numbers array_numbers shots_of_numbers arrays_of_numbers
numbers_back n =
    let m = n.shots in
    let c = numbers_kept m.class_number in
    λ i. record {
      shots =
          record {
            radius = m.radius;
            energy = m.energy;
            reflectivity = m.reflectivity;
            trigger_channel = m.trigger_channel;
            pulse_width = m.pulse_width;
            optical_width = m.optical_width;
            laser_power = m.laser_power;
            class_number = c i;
            encoder = m.encoder;
            failures = m.failures;
          };
      channels = n.channels;
      xyz = n.xyz;
      source_header = n.source_header;
    }

-- the arrays of a record's bytes
of_record : (s : List ℕ) → arrays_of_numbers (array_numbers (arrays_of s)) ≡ arrays_of s
unfolding shot_numbers array_numbers shots_of_numbers arrays_of_numbers shot_arrays_of arrays_of
of_record s =
    let a = (arrays_of s).shots in
    let c = classes_kept s in
    λ i. record {
      shots =
          record {
            radius = a.radius;
            energy = a.energy;
            reflectivity = a.reflectivity;
            trigger_channel = a.trigger_channel;
            pulse_width = a.pulse_width;
            optical_width = a.optical_width;
            laser_power = a.laser_power;
            class = c i;
            encoder = a.encoder;
            failures = a.failures;
          };
      channels = (arrays_of s).channels;
      xyz = (arrays_of s).xyz;
      source_header = (arrays_of s).source_header;
    }

of_none : arrays_of_numbers (array_numbers no_arrays) ≡ no_arrays
unfolding shot_numbers array_numbers shots_of_numbers arrays_of_numbers no_arrays
of_none = refl

by_number : (s : List ℕ) (n : ℕ) → arrays_of_numbers (array_numbers (after n (arrays_of s) no_arrays)) ≡ after n (arrays_of s) no_arrays
unfolding after
by_number s zero = of_record s
by_number s (suc n) = of_none

-- the arrays that are read
pub arrays_back : (s : List ℕ) → arrays_of_numbers (array_numbers (read_arrays s)) ≡ read_arrays s
arrays_back s = by_number s (record_refusal s)
