-- Column by column, each of zeros.
use Prim.Native.Nat.{ℕ}
use mathlib.Core.Path.{◌≡◌}
use mathlib.Core.List.{List}
use lib.ListN.{replicate}
use Rattle.std.proofs.Common.{rules}
use Rattle.std.specs.Array.{AllOfLen}
use Rattle.pedr_flags.specs.Class.{class_of}
use Rattle.pedr_flags.specs.Encoder.{encoder_of}
use Rattle.pedr_arrays.specs.Arrays.{no_failures, no_arrays}
use Rattle.pedr_arrays.specs.declared.RecordArrays.{RecordArrays}
use Rattle.pedr_arrays.specs.contracts.RecordArraysDefault.TheImpl as RecordArraysDefault
use Rattle.pedr_arrays.proofs.Zeros.{all_one}
use Rattle.pedr_arrays.proofs.no_arrays.Goals as goal

zeros : (xs : List ℕ) (n : ℕ) → AllOfLen (λ x. x ≡ 0) xs n → xs ≡ replicate n 0
zeros xs n a = all_one _ 0 xs n (λ x e. e) a

are_zeros : (a : RecordArrays) → RecordArraysDefault.ghosts.is_default a → a ≡ no_arrays
unfolding no_arrays
are_zeros a h =
    let s = h.0 in
    let class = all_one _ (class_of 0) _ 20 (λ x e. e) s.1.1.1.1.1.1.1.0 in
    let encoder = all_one _ (encoder_of 0) _ 20 (λ x e i. record { start = e.0 i; carried_low = e.1.0 i; stop = e.1.1.0 i; carried_high = e.1.1.1 i }) s.1.1.1.1.1.1.1.1.0 in
    let failures = all_one _ no_failures _ 20 (λ x e i. record { power = e.0 i; energy = e.1.0 i; range = e.1.1.0 i; window = e.1.1.1.0 i; comparison = e.1.1.1.1 i }) s.1.1.1.1.1.1.1.1.1 in
    λ i. record {
      shots = record {
        radius = zeros _ _ s.0 i;
        energy = zeros _ _ s.1.0 i;
        reflectivity = zeros _ _ s.1.1.0 i;
        trigger_channel = zeros _ _ s.1.1.1.0 i;
        pulse_width = zeros _ _ s.1.1.1.1.0 i;
        optical_width = zeros _ _ s.1.1.1.1.1.0 i;
        laser_power = zeros _ _ s.1.1.1.1.1.1.0 i;
        class = class i;
        encoder = encoder i;
        failures = failures i;
      };
      channels = record { noise = zeros _ _ h.1.0.0 i; thresholds = zeros _ _ h.1.0.1 i };
      xyz = all_one _ _ _ 3 (λ x e. e) h.1.1.0 i;
      source_header = zeros _ _ h.1.1.1 i;
    }

pub returns : goal.returns
returns c = are_zeros _ (search rules)
