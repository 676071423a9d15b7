-- Document 01, "PEDR record", encoder bytes: bits 0-1 are start, bits 4-5 stop, bit 0 the lowest. Bits 2-3 and 6-7 are carried.
use Rattle.std.specs.Prelude.{ℕ}
use Rattle.octets.specs.Bytes.{bits_at}
use Rattle.pedr_flags.specs.declared.Encoder.{Encoder}

abbrev pub encoder_of : ℕ → Encoder
encoder_of b = record { start = bits_at b 0 2; carried_low = bits_at b 2 2; stop = bits_at b 4 2; carried_high = bits_at b 6 2 }
