-- The descriptor's bits as one number.
use Prim.Native.Nat.{ℕ, ◌+◌, ◌*◌, ◌%◌, ◌^◌}
use mathlib.Core.Path.{◌≡◌, ap, ◌∙◌}
use mathlib.Core.Bool.{Bool}
use mathlib.Core.List.{List, ◌++◌, map}
use native.Mathlib.Omega.{arith}
use lib.ListN.{length, length-map}
use Rattle.numbers.specs.Bit.{digit, from_bits}
use Rattle.numbers.proofs.Given.{from_bits_append}
use Rattle.octets.specs.Table.{table}
use Rattle.octets.proofs.Bits.{is_set, from_table}
use Rattle.pedr_flags.specs.declared.Descriptor.{Descriptor}
use Rattle.pedr_flags.specs.declared.ShotFailures.{ShotFailures}
use Rattle.pedr_flags_writer.specs.Descriptor.{descriptor_bits}

module _ (d : Descriptor) (fs : List ShotFailures) (shots : length fs ≡ 20) where
  -- 20 bits of one test, then others
  column_then : (g : ShotFailures → Bool) (rest : List Bool) → from_bits (map g fs ++ rest) ≡ from_bits (map g fs) + 2 ^ 20 * from_bits rest
  column_then g rest = from_bits_append (map g fs) rest ∙ ap (λ (n : ℕ). from_bits (map g fs) + 2 ^ n * from_bits rest) (length-map fs g ∙ shots)

  -- bits 64 to 127, and bits 0 to 63
  abbrev pub high_word : ℕ
  high_word = from_bits (map (λ f. f.window) fs) + 2 ^ 20 * from_bits (map (λ f. f.comparison) fs) + 2 ^ 40 * (d.carried % 2 ^ 24)

  abbrev pub low_word : ℕ
  low_word =
      digit d.packet_sum + 2 * digit d.software_sum + 4 * digit d.mode + 8 * digit d.ots + 2 ^ 4 * from_bits (map (λ f. f.power) fs)
      + 2 ^ 24 * from_bits (map (λ f. f.energy) fs) + 2 ^ 44 * from_bits (map (λ f. f.range) fs)

  pub two_words : from_bits (descriptor_bits d fs) ≡ high_word * 2 ^ 64 + low_word
  unfolding descriptor_bits from_bits
  two_words =
      let carried : List Bool = table 24 (is_set d.carried) in
      let b5 : List Bool = map (λ f. f.comparison) fs ++ carried in
      let b4 : List Bool = map (λ f. f.window) fs ++ b5 in
      let b3 : List Bool = map (λ f. f.range) fs ++ b4 in
      let b2 : List Bool = map (λ f. f.energy) fs ++ b3 in
      let high : from_bits b4 ≡ high_word =
      omega (arith, column_then (λ f. f.window) b5, column_then (λ f. f.comparison) carried, from_table 24 d.carried) in
      let both : from_bits (descriptor_bits d fs) ≡ from_bits b4 * 2 ^ 64 + low_word =
      omega (arith, column_then (λ f. f.power) b2, column_then (λ f. f.energy) b3, column_then (λ f. f.range) b4) in
      both ∙ ap (λ (n : ℕ). n * 2 ^ 64 + low_word) high
