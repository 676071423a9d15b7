-- The packet's columns: its parts fit them, and a store behind the front is one in the carried bytes.
use Prim.Native.Nat.{ℕ, ◌-◌, ◌≤◌}
use mathlib.Core.Path.{◌≡◌, refl, sym, ap, ◌∙◌}
use mathlib.Core.Bool.{true}
use mathlib.Core.List.{List, [], ◌∷◌, ◌++◌, append-nil}
use native.Mathlib.Nat.{zero-add}
use native.Mathlib.Omega.{arith}
use lib.ListN.{length, take}
use Rattle.octets.specs.Bytes.{octets_of, put}
use Rattle.octets.proofs.Store.{put_behind}
use Rattle.layout.specs.Column.{tiles, cut, join}
use Rattle.layout.proofs.Cover.{Fit, done, ◌▹◌, cut_join, join_append, join_length}
use Rattle.packet_layout.specs.Layout.{packet_columns}
use Rattle.packet.specs.declared.PacketFields.{PacketFields}
use Rattle.packet.specs.declared.PacketArrays.{PacketArrays}
use Rattle.packet_writer.specs.Write.{head_parts, status_parts, histogram_of, parts_of, unsummed}
use Rattle.packet_writer.proofs.Histogram.{histogram_length}
use Rattle.packet_laws.specs.RoundTrip.{Typed}

pub packet_tiles : tiles 0 1080 packet_columns ≡ true
packet_tiles = refl

-- all parts but the carried bytes
front_parts : PacketFields → PacketArrays → List (List ℕ)
front_parts f a =
    head_parts f ++ (a.temperatures ∷ a.readings ∷ (status_parts f ++ (histogram_of a.bins ∷ octets_of 2 f.hstart ∷ [])))

module _ (f : PacketFields) (a : PacketArrays) (t : Typed f a) where
  pub parts_fit : (x : List ℕ) → length x ≡ 974 → Fit (parts_of f a x) packet_columns
  parts_fit x e =
      refl ▹ refl ▹ refl ▹ refl ▹ refl ▹ refl ▹ t.temperatures_count ▹ t.readings_count ▹ refl ▹ refl ▹ refl ▹ refl ▹ refl ▹ refl ▹ refl
      ▹ refl ▹ refl ▹ refl ▹ histogram_length a.bins ▹ refl ▹ e ▹ done

  front_length : length (join (front_parts f a)) ≡ 106
  unfolding front_parts
  front_length =
      sym (zero-add (length (join (front_parts f a))))
      ∙ join_length (front_parts f a) (take 20 packet_columns) 0 106 refl
      (refl ▹ refl ▹ refl ▹ refl ▹ refl ▹ refl ▹ t.temperatures_count ▹ t.readings_count ▹ refl ▹ refl ▹ refl ▹ refl ▹ refl ▹ refl ▹ refl
      ▹ refl ▹ refl ▹ refl ▹ histogram_length a.bins ▹ refl ▹ done)

  unsummed_front : (x : List ℕ) → unsummed f a x ≡ join (front_parts f a) ++ x
  unfolding unsummed front_parts
  unsummed_front x = join_append (front_parts f a) (x ∷ []) ∙ ap (λ (s : List ℕ). join (front_parts f a) ++ s) (append-nil x)

  -- bytes stored from byte 106 on
  pub put_carried : (x b : List ℕ) (i : ℕ) → 106 ≤ i → put (unsummed f a x) i b ≡ unsummed f a (put x (i - 106) b)
  put_carried x b i h =
      ap (λ (s : List ℕ). put s i b) (unsummed_front x)
      ∙ put_behind (join (front_parts f a)) x b (i - 106) i (omega (arith, front_length)) ∙ sym (unsummed_front (put x (i - 106) b))

  -- each column of the packet's bytes is its part
  pub columns_are : (x : List ℕ) → length x ≡ 974 → cut (unsummed f a x) packet_columns ≡ parts_of f a x
  unfolding unsummed
  columns_are x e = cut_join (parts_of f a x) packet_columns 1080 packet_tiles (parts_fit x e)

  pub unsummed_length : (x : List ℕ) → length x ≡ 974 → length (unsummed f a x) ≡ 1080
  unfolding unsummed
  unsummed_length x e = omega (arith, join_length (parts_of f a x) packet_columns 0 1080 packet_tiles (parts_fit x e))
