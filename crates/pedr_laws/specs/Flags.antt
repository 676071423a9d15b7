-- The flags and codes of a record, taken apart, lose no bit: the carried bits can be given back.
use Rattle.std.specs.Prelude.{ℕ, ◌+◌, ◌<◌, ◌≡◌, List, eqb}
use Rattle.numbers.specs.Bit.{bit}
use Rattle.octets.specs.Bytes.{nat_at, Octets}
use Rattle.layout.specs.Column.{value, size}
use Rattle.pedr_layout.specs.Layout.{quality_number, descriptor}
use Rattle.pedr_flags.specs.Quality.{good_count, quality_of}
use Rattle.pedr_flags.specs.Descriptor.{failed, descriptor_of}
use Rattle.pedr_flags.specs.Class.{class_of, class_number}
use Rattle.pedr_flags.specs.Encoder.{encoder_of}
use Rattle.pedr_flags_writer.specs.Quality.{quality_bits}
use Rattle.pedr_flags_writer.specs.Encoder.{encoder_byte}
use Rattle.pedr_fields.specs.Fields.{fields_of}
use Rattle.pedr_check.specs.Refusal.{record_refusal}

-- the descriptor's 16 bytes as one number
abbrev pub descriptor_number : List ℕ → ℕ
descriptor_number s = nat_at s descriptor.start (size descriptor)

pub record FlagsKept : Type 0 where
  -- the quality number is its carried bits and the bits of its shots
  pub quality : (s : List ℕ) → Octets s → quality_bits (quality_of s) ≡ value s quality_number
  -- an accepted record's counter is the count of its good shots, by its fields alone
  pub counter : (s : List ℕ) → record_refusal s ≡ 0 → good_count (fields_of s).quality.good ≡ (fields_of s).quality.counter
  -- document 001: the descriptor is read from right to left with the rightmost bit being bit 0
  pub tests : (s : List ℕ) → Octets s → (k : ℕ) → k < 128 → eqb (bit (descriptor_number s) k) 1 ≡ failed s k
  -- bits 104 to 127 are carried
  pub carried : (s : List ℕ) → Octets s → (k : ℕ) → k < 24 → eqb (bit (descriptor_of s).carried k) 1 ≡ failed s (104 + k)
  -- a class has its own number, and an encoder byte its own bits
  pub class : (n : ℕ) → class_number (class_of n) ≡ n
  pub encoder : (b : ℕ) → b < 256 → encoder_byte (encoder_of b) ≡ b
