-- Each array of 20 shots is a table, whose element k - 1 is the shot's item.
use Prim.Native.Nat.{ℕ, suc, ◌+◌, ◌-◌, ◌*◌, ◌<◌}
use mathlib.Core.Path.{◌≡◌, ap, ◌∙◌}
use mathlib.Core.List.{List}
use native.Mathlib.Omega.{arith}
use lib.Dec.{eqb}
use lib.ListN.{get_or}
use Rattle.numbers.proofs.Bits.{bit_mod}
use Rattle.octets.specs.Bytes.{nat_at}
use Rattle.octets.specs.Table.{nats_at}
use Rattle.octets.proofs.Fill.{table_at}
use Rattle.layout.specs.Column.{value, item}
use Rattle.pedr_layout.specs.Layout.{quality_number, class, encoder}
use Rattle.pedr_flags.specs.Quality.{quality_of}
use Rattle.pedr_flags.specs.Descriptor.{failures_of, all_failures_of}
use Rattle.pedr_flags.specs.Class.{class_of}
use Rattle.pedr_flags.specs.Encoder.{encoder_of}
use Rattle.pedr_fields.specs.Fields.{fields_of}
use Rattle.pedr_arrays.specs.Arrays.{no_failures, classes_of, encoders_of, shot_arrays_of, arrays_of}
use Rattle.pedr_shot.specs.Shot.{shot_of}
use Rattle.pedr_laws.specs.Shots.{shot_from}
use Rattle.pedr_laws.proofs.shots_agree.Goals as goal

item_at : (s : List ℕ) (i w k : ℕ) → k < 20 → get_or (nats_at s i w 20) k 0 ≡ nat_at s (i + w * k) w
unfolding nats_at
item_at s i w k h = table_at 20 (λ j. nat_at s (i + w * j) w) k 0 h

class_at : (s : List ℕ) (k : ℕ) → k < 20 → get_or (classes_of s) k (class_of 0) ≡ class_of (item s class k)
unfolding classes_of
class_at s k h = table_at 20 (λ j. class_of (item s class j)) k (class_of 0) h

encoder_at : (s : List ℕ) (k : ℕ) → k < 20 → get_or (encoders_of s) k (encoder_of 0) ≡ encoder_of (item s encoder k)
unfolding encoders_of
encoder_at s k h = table_at 20 (λ j. encoder_of (item s encoder j)) k (encoder_of 0) h

failures_at : (s : List ℕ) (k : ℕ) → k < 20 → get_or (all_failures_of s) k no_failures ≡ failures_of s (suc k)
unfolding all_failures_of
failures_at s k h = table_at 20 (λ j. failures_of s (suc j)) k no_failures h

pub returns : goal.returns
unfolding shot_from shot_of fields_of quality_of arrays_of shot_arrays_of
returns c = λ s k lo hi.
    let h : k - 1 < 20 = omega arith in
    let e : suc (k - 1) ≡ k = omega arith in
    let b = bit_mod (value s quality_number) 20 (20 - k) (omega arith) in
    λ i. record {
      radius = item_at s 48 4 (k - 1) h i;
      energy = item_at s 144 2 (k - 1) h i;
      reflectivity = item_at s 184 2 (k - 1) h i;
      trigger_channel = item_at s 224 1 (k - 1) h i;
      pulse_width = item_at s 244 2 (k - 1) h i;
      optical_width = item_at s 284 2 (k - 1) h i;
      laser_power = item_at s 344 2 (k - 1) h i;
      class = class_at s (k - 1) h i;
      encoder = encoder_at s (k - 1) h i;
      good = eqb (b i) 1;
      failures = (failures_at s (k - 1) h ∙ ap (failures_of s) e) i;
    }
