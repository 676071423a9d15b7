-- Document 01, "PEDR record", Quality: bytes 29-31 are one number, byte 32 a counter.
use Rattle.std.specs.Prelude.{ℕ, ◌-◌, Bool, List, eqb}
use Rattle.numbers.specs.Bit.{bit, bits_set}
use Rattle.octets.specs.Bytes.{bits_at}
use Rattle.layout.specs.Column.{value}
use Rattle.pedr_layout.specs.Layout.{quality_number, quality_counter}
use Rattle.pedr_flags.specs.declared.Quality.{Quality}

-- bit 20 - s is set for a good shot s, which is 1 to 20
abbrev pub good_shot : ℕ → ℕ → Bool
good_shot q s = eqb (bit q (20 - s)) 1

-- the number of ones in bits 0 to 19
abbrev pub good_count : ℕ → ℕ
good_count q = bits_set q 20

-- bits 0 to 19 of the number, bits 20 to 23, which are carried, and the counter
unfoldable pub quality_of : List ℕ → Quality
quality_of s =
    record {
      good = bits_at (value s quality_number) 0 20;
      carried = bits_at (value s quality_number) 20 4;
      counter = value s quality_counter;
    }
