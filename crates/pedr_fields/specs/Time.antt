-- Document 01, "PEDR record": time is whole × 1,000,000 + µs, exact.
use Rattle.std.specs.Prelude.{ℤ, pos, ◌+ℤ◌, ◌*ℤ◌}
use Rattle.pedr_fields.specs.declared.FrameTime.{FrameTime}

abbrev pub time_in_micros : FrameTime → ℤ
time_in_micros t = t.whole *ℤ pos 1000000 +ℤ t.micros
