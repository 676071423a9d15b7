-- Field by field, as the derived default states it.
use mathlib.Core.Path.{◌≡◌}
use Rattle.std.specs.Prelude.{pos}
use Rattle.pedr_arrays.specs.Arrays.{no_failures}
use Rattle.pedr_flags.specs.Encoder.{encoder_of}
use Rattle.pedr_c.specs.Refused.{no_numbers}
use Rattle.pedr_c.proofs.Zeros.{all_copies}
use Rattle.pedr_c.proofs.no_arrays.Goals as goal

pub returns : goal.returns
unfolding no_numbers
returns c =
    let h = c.default.ensures in
    let n = all_copies (λ x. x ≡ 0) 0 (λ x p. p) in
    λ i. record {
      shots =
          record {
            radius = n _ _ h.0.0 i;
            energy = n _ _ h.0.1.0 i;
            reflectivity = n _ _ h.0.1.1.0 i;
            trigger_channel = n _ _ h.0.1.1.1.0 i;
            pulse_width = n _ _ h.0.1.1.1.1.0 i;
            optical_width = n _ _ h.0.1.1.1.1.1.0 i;
            laser_power = n _ _ h.0.1.1.1.1.1.1.0 i;
            class_number = n _ _ h.0.1.1.1.1.1.1.1.0 i;
            encoder = all_copies _ (encoder_of 0) (λ x p j. record { start = p.0 j; carried_low = p.1.0 j; stop = p.1.1.0 j; carried_high = p.1.1.1 j }) _ _ h.0.1.1.1.1.1.1.1.1.0 i;
            failures = all_copies _ no_failures (λ x p j. record { power = p.0 j; energy = p.1.0 j; range = p.1.1.0 j; window = p.1.1.1.0 j; comparison = p.1.1.1.1 j }) _ _ h.0.1.1.1.1.1.1.1.1.1 i;
          };
      channels = record { noise = n _ _ h.1.0.0 i; thresholds = n _ _ h.1.0.1 i };
      xyz = all_copies (λ x. x ≡ pos 0) (pos 0) (λ x p. p) _ _ h.1.1.0 i;
      source_header = n _ _ h.1.1.1 i;
    }
