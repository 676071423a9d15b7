-- The packet's bytes, written in seven sections.
use Prim.Native.Nat.{ℕ}
use mathlib.Core.Path.{◌≡◌, refl, ◌∙◌}
use mathlib.Core.List.{List, [], ◌∷◌}
use native.Mathlib.Omega.{arith}
use lib.ListN.{length}
use Rattle.octets.specs.Bytes.{octets_of}
use Rattle.octets.proofs.Store.{put_whole}
use Rattle.layout.specs.Column.{Column, column, join}
use Rattle.layout.proofs.Cover.{Fit, done, ◌▹◌, join_length}
use Rattle.layout.proofs.Store.{Puts, puts_join}
use Rattle.packet.specs.declared.PacketFields.{PacketFields}
use Rattle.packet.specs.declared.PacketArrays.{PacketArrays}
use Rattle.packet_writer.specs.Write.{head_parts, status_parts, histogram_of, unsummed}
use Rattle.packet_writer.proofs.Histogram.{histogram_length}

abbrev pub sections : PacketFields → PacketArrays → List ℕ → List (List ℕ)
sections f a x =
    join (head_parts f) ∷ a.temperatures ∷ a.readings ∷ join (status_parts f) ∷ histogram_of a.bins ∷ octets_of 2 f.hstart ∷ x ∷ []

abbrev pub section_columns : List Column
section_columns =
    column 0 1 12 ∷ column 12 1 16 ∷ column 28 1 14 ∷ column 42 1 14 ∷ column 56 1 48 ∷ column 104 1 2 ∷ column 106 1 974 ∷ []

-- the seven stores, each over what the one before it left
pub stored : (f : PacketFields) (a : PacketArrays) (x s t : List ℕ) → length a.temperatures ≡ 16 → length a.readings ≡ 14 → length x ≡ 974 → length s ≡ 1080
    → Puts s (sections f a x) section_columns t → t ≡ unsummed f a x
unfolding unsummed
stored f a x s t lt lr lx ls p =
    let fit : Fit (sections f a x) section_columns = refl ▹ lt ▹ lr ▹ refl ▹ histogram_length a.bins ▹ refl ▹ lx ▹ done in
    puts_join (sections f a x) section_columns 0 1080 refl fit p
    ∙ put_whole s (join (sections f a x)) (omega (arith, join_length (sections f a x) section_columns 0 1080 refl fit))
