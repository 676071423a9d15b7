-- Document 01, "PEDR record", encoder bytes, put together: bits 0-1 are start, bits 4-5 stop, bits 2-3 and 6-7 carried. Bits given over two are left
-- out.
use Rattle.std.specs.Prelude.{ℕ, ◌+◌, ◌*◌, ◌^◌}
use Rattle.octets.specs.Bytes.{bits_at}
use Rattle.pedr_flags.specs.declared.Encoder.{Encoder}

abbrev pub encoder_byte : Encoder → ℕ
encoder_byte e =
    bits_at e.start 0 2 + bits_at e.carried_low 0 2 * 2 ^ 2 + bits_at e.stop 0 2 * 2 ^ 4 + bits_at e.carried_high 0 2 * 2 ^ 6
