-- Document 01, "PEDR record", Quality, put together: bits 0 to 19 of the number are those of the shots, bits 20 to 23 are carried. Bits given over
-- these widths are left out.
use Rattle.std.specs.Prelude.{ℕ, ◌+◌, ◌*◌, ◌^◌}
use Rattle.octets.specs.Bytes.{bits_at}
use Rattle.pedr_flags.specs.declared.Quality.{Quality}

abbrev pub quality_bits : Quality → ℕ
quality_bits q = bits_at q.good 0 20 + bits_at q.carried 0 4 * 2 ^ 20
