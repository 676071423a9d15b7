-- Document 01, "PEDR record", Descriptor: a one is a failure.
use Rattle.std.specs.Prelude.{ℕ, suc, ◌+◌, ◌-◌, ◌/◌, ◌%◌, Bool, List, eqb}
use Rattle.numbers.specs.Bit.{bit}
use Rattle.octets.specs.Table.{table}
use Rattle.layout.specs.Column.{value}
use Rattle.pedr_layout.specs.Layout.{shot_count, ◌u1, ◌u3}
use Rattle.pedr_flags.specs.declared.Descriptor.{Descriptor}
use Rattle.pedr_flags.specs.declared.ShotFailures.{ShotFailures}

-- bit k (0 to 127) is bit k mod 8 of byte 48 - floor(k / 8)
abbrev pub byte_of_bit : ℕ → ℕ
byte_of_bit k = 48 - k / 8

abbrev pub place_of_bit : ℕ → ℕ
place_of_bit k = k % 8

abbrev pub failed : List ℕ → ℕ → Bool
failed s k = eqb (bit (value s (byte_of_bit k u1)) (place_of_bit k)) 1

-- 0 packet sum, 1 software sum, 2 mode, 3 OTS; 104 to 127, which are bytes 33 to 35, are carried
unfoldable pub descriptor_of : List ℕ → Descriptor
descriptor_of s =
    record {
      packet_sum = failed s 0;
      software_sum = failed s 1;
      mode = failed s 2;
      ots = failed s 3;
      carried = value s (33 u3);
    }

-- shot k, which is 1 to 20, is at 3 + k power, 23 + k energy, 43 + k range, 63 + k window, 83 + k comparison
unfoldable pub failures_of : List ℕ → ℕ → ShotFailures
failures_of s k =
    record {
      power = failed s (3 + k);
      energy = failed s (23 + k);
      range = failed s (43 + k);
      window = failed s (63 + k);
      comparison = failed s (83 + k);
    }

-- the tests of the 20 shots; shot k stands at index k - 1
unfoldable pub all_failures_of : List ℕ → List ShotFailures
all_failures_of s = table shot_count (λ j. failures_of s (suc j))
