-- Document 01, "Refusal numbers": the record gives 11 to 15, in this order.
use Rattle.std.specs.Prelude.{ℕ, List, eqb, leb, ℤ, nat_abs, length}
use Rattle.octets.specs.Refusal.{refuse◌unless◌else◌, within}
use Rattle.layout.specs.Column.{value}
use Rattle.pedr_layout.specs.Layout as columns
use Rattle.pedr_flags.specs.Quality.{good_count}

-- 13, 14, 15: µs part not from -999,999 to 999,999; latitude at byte 13 beyond ±90,000,000; frame index not 1 to 7
unfoldable pub values_refusal : ℤ → ℤ → ℕ → ℕ
values_refusal micros latitude index =
    refuse 13 unless leb (nat_abs micros) 999999 else
    refuse 14 unless leb (nat_abs latitude) 90000000 else
    refuse 15 unless within 1 7 index else
    0

-- 11, 12: record not 776 bytes; quality counter wrong
unfoldable pub record_refusal : List ℕ → ℕ
record_refusal s =
    refuse 11 unless eqb (length s) columns.record_size else
    refuse 12 unless eqb (good_count (value s columns.quality_number)) (value s columns.quality_counter) else
    values_refusal (value s columns.time_micros) (value s columns.latitude) (value s columns.frame_index)
