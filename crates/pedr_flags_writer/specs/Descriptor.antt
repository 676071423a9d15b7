-- Document 01, "PEDR record", Descriptor, put together.
use Rattle.std.specs.Prelude.{ℕ, Bool, List, ◌∷◌, ◌++◌, map, eqb}
use Rattle.numbers.specs.Bit.{bit, from_bits}
use Rattle.octets.specs.Bytes.{octets_of}
use Rattle.octets.specs.Table.{table}
use Rattle.pedr_flags.specs.declared.Descriptor.{Descriptor}
use Rattle.pedr_flags.specs.declared.ShotFailures.{ShotFailures}

-- the 128 bits, bit 0 first: 0 packet sum, 1 software sum, 2 mode, 3 OTS; the power tests of shots 1 to 20 from 4 on, energy from 24, range from 44,
-- window from 64, comparison from 84; 104 to 127 are carried. Carried bits given over 24 are left out
unfoldable pub descriptor_bits : Descriptor → List ShotFailures → List Bool
descriptor_bits d fs =
    d.packet_sum ∷ d.software_sum ∷ d.mode ∷ d.ots
    ∷ (map (λ f. f.power) fs
    ++ (map (λ f. f.energy) fs
    ++ (map (λ f. f.range) fs
    ++ (map (λ f. f.window) fs
    ++ (map (λ f. f.comparison) fs
    ++ table 24 (λ k. eqb (bit d.carried k) 1))))))

-- bytes 33 to 48: bit k is bit k mod 8 of byte 48 - floor(k / 8), so that they are one number
unfoldable pub descriptor_octets : Descriptor → List ShotFailures → List ℕ
descriptor_octets d fs = octets_of 16 (from_bits (descriptor_bits d fs))
