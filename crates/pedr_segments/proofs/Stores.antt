-- Stores that make up a column between them, or two columns at once.
use Prim.Native.Nat.{ℕ, ◌+◌, ◌*◌, ◌^◌, ◌<◌}
use mathlib.Core.Path.{◌≡◌, refl, sym, ap, ◌∙◌}
use mathlib.Core.List.{List}
use native.Mathlib.Omega.{arith}
use Rattle.numbers.specs.Bit.{from_bits}
use Rattle.numbers.proofs.Bits.{bits_set_le}
use Rattle.octets.specs.Bytes.{octets_of, put}
use Rattle.octets.proofs.Codec.{octets_length, octets_split}
use Rattle.octets.proofs.Store.{put_then}
use Rattle.pedr_flags.specs.Quality.{good_count}
use Rattle.pedr_flags.specs.declared.Quality.{Quality}
use Rattle.pedr_flags.specs.declared.Descriptor.{Descriptor}
use Rattle.pedr_flags.specs.declared.ShotFailures.{ShotFailures}
use Rattle.pedr_flags_writer.specs.Quality.{quality_bits}
use Rattle.pedr_flags_writer.specs.Descriptor.{descriptor_bits, descriptor_octets}

-- the quality number and its counter, stored as one number
pub quality_stored : (q : Quality) (word : ℕ) (t s : List ℕ) → word ≡ quality_bits q * 256 + good_count q.good → t ≡ put s 28 (octets_of 4 word)
    → t ≡ put (put s 28 (octets_of 3 (quality_bits q))) 31 (octets_of 1 (good_count q.good))
quality_stored q word t s w e =
    let n = quality_bits q in
    let c = good_count q.good in
    e ∙ ap (λ (x : ℕ). put s 28 (octets_of 4 x)) w
    ∙ ap (put s 28) (octets_split 3 1 n c (omega (arith, bits_set_le q.good 20)))
    ∙ sym (put_then (octets_of 3 n) s (octets_of 1 c) 28 31 refl)

-- the descriptor, stored as two numbers
pub descriptor_stored : (d : Descriptor) (fs : List ShotFailures) (high low : ℕ) (t u s : List ℕ)
    → high * 2 ^ 64 + low ≡ from_bits (descriptor_bits d fs) → low < 2 ^ 64 → u ≡ put s 32 (octets_of 8 high) → t ≡ put u 40 (octets_of 8 low)
    → t ≡ put s 32 (descriptor_octets d fs)
unfolding descriptor_octets
descriptor_stored d fs high low t u s n l e g =
    g ∙ ap (λ (z : List ℕ). put z 40 (octets_of 8 low)) e ∙ put_then (octets_of 8 high) s (octets_of 8 low) 32 40 (ap (λ (k : ℕ). 32 + k) (octets_length 8 high))
    ∙ ap (put s 32) (sym (octets_split 8 8 high low l) ∙ ap (octets_of 16) n)
