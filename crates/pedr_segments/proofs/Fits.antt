-- The parts of a record fit its columns, segment by segment.
use Prim.Native.Nat.{ℕ, ◌+◌, ◌*◌}
use mathlib.Core.Path.{◌≡◌, refl, ap, ◌∙◌}
use mathlib.Core.Bool.{true}
use mathlib.Core.List.{List, [], ◌∷◌, map}
use native.Mathlib.Omega.{arith}
use lib.ListN.{length, take, drop, length-map}
use Rattle.octets.proofs.Codec.{octets_length}
use Rattle.layout.specs.Column.{Column, tiles, join, Sign, unsigned, complement, Number, numbers_octets}
use Rattle.layout.proofs.Cover.{Fit, done, ◌▹◌, join_length}
use Rattle.layout.proofs.Values.{numbers_length}
use Rattle.numbers.specs.Bit.{from_bits}
use Rattle.pedr_layout.specs.Layout.{record_columns}
use Rattle.pedr_flags.specs.declared.Descriptor.{Descriptor}
use Rattle.pedr_flags.specs.declared.ShotFailures.{ShotFailures}
use Rattle.pedr_flags_writer.specs.Descriptor.{descriptor_bits, descriptor_octets}
use Rattle.pedr_arrays.specs.declared.ShotArrays.{ShotArrays}
use Rattle.pedr_arrays.specs.declared.ChannelArrays.{ChannelArrays}
use Rattle.pedr_arrays.specs.declared.RecordArrays.{RecordArrays}
use Rattle.pedr_fields.specs.declared.RecordFields.{RecordFields}
use Rattle.pedr_flags.specs.Class.{class_number}
use Rattle.pedr_segments.specs.Parts.{head_parts, radii_parts, pulse_parts, ground_parts, gate_parts, receiver_parts, link_parts}

-- the columns of each segment
abbrev pub head_columns : List Column
head_columns = take 9 record_columns

abbrev pub radii_columns : List Column
radii_columns = take 6 (drop 9 record_columns)

abbrev pub pulse_columns : List Column
pulse_columns = take 5 (drop 15 record_columns)

abbrev pub ground_columns : List Column
ground_columns = take 4 (drop 20 record_columns)

abbrev pub gate_columns : List Column
gate_columns = take 4 (drop 24 record_columns)

abbrev pub receiver_columns : List Column
receiver_columns = take 6 (drop 28 record_columns)

abbrev pub link_columns : List Column
link_columns = take 4 (drop 34 record_columns)

-- the lengths of the arrays, which their types give
pub record ShotSizes (s : ShotArrays) : Type 0 where
  pub radius : length s.radius ≡ 20
  pub energy : length s.energy ≡ 20
  pub reflectivity : length s.reflectivity ≡ 20
  pub trigger_channel : length s.trigger_channel ≡ 20
  pub pulse_width : length s.pulse_width ≡ 20
  pub optical_width : length s.optical_width ≡ 20
  pub laser_power : length s.laser_power ≡ 20
  pub class : length s.class ≡ 20
  pub encoder : length s.encoder ≡ 20
  pub failures : length s.failures ≡ 20

pub record Sizes (a : RecordArrays) : Type 0 where
  pub shots : ShotSizes a.shots
  pub noise : length a.channels.noise ≡ 8
  pub thresholds : length a.channels.thresholds ≡ 8
  pub xyz : length a.xyz ≡ 3
  pub source_header : length a.source_header ≡ 2

-- a segment's parts, from index a to index b, have n bytes
pub sized : (ps : List (List ℕ)) (cs : List Column) (a n b : ℕ) → tiles a b cs ≡ true → a + n ≡ b → Fit ps cs → length (join ps) ≡ n
sized ps cs a n b t e f = omega (arith, join_length ps cs a b t f)

-- n numbers of w bytes each
pub run : (g : Sign) (w n : ℕ) (xs : List (Number g)) → length xs ≡ n → length (numbers_octets g w xs) ≡ w * n
run g w n xs e = numbers_length g w xs ∙ ap (λ (k : ℕ). w * k) e

pub descriptor_length : (d : Descriptor) (fs : List ShotFailures) → length (descriptor_octets d fs) ≡ 16
unfolding descriptor_octets
descriptor_length d fs = octets_length 16 (from_bits (descriptor_bits d fs))

pub head_fits : (f : RecordFields) → Fit (head_parts f) head_columns
head_fits f = refl ▹ refl ▹ refl ▹ refl ▹ refl ▹ refl ▹ refl ▹ refl ▹ refl ▹ done

pub radii_fits : (f : RecordFields) (s : ShotArrays) → length s.radius ≡ 20 → Fit (radii_parts f s) radii_columns
radii_fits f s l = descriptor_length f.descriptor s.failures ▹ run unsigned 4 20 s.radius l ▹ refl ▹ refl ▹ refl ▹ refl ▹ done

pub pulse_fits : (s : ShotArrays) → length s.energy ≡ 20 → length s.reflectivity ≡ 20 → length s.trigger_channel ≡ 20
    → length s.pulse_width ≡ 20 → length s.optical_width ≡ 20 → Fit (pulse_parts s) pulse_columns
pulse_fits s le lr lt lp lo =
    run unsigned 2 20 s.energy le
    ▹ run unsigned 2 20 s.reflectivity lr
    ▹ run unsigned 1 20 s.trigger_channel lt
    ▹ run unsigned 2 20 s.pulse_width lp
    ▹ run unsigned 2 20 s.optical_width lo
    ▹ done

pub ground_fits : (f : RecordFields) (a : RecordArrays) → length a.xyz ≡ 3 → length a.shots.laser_power ≡ 20 → length a.shots.class ≡ 20
    → Fit (ground_parts f a) ground_columns
ground_fits f a lx lp lc =
    run complement 4 3 a.xyz lx
    ▹ run complement 4 2 (f.position.ground_latitude ∷ f.position.ground_longitude ∷ []) refl
    ▹ run unsigned 2 20 a.shots.laser_power lp
    ▹ run unsigned 2 20 (map class_number a.shots.class) (length-map a.shots.class class_number ∙ lc)
    ▹ done

pub gate_fits : (f : RecordFields) (c : ChannelArrays) → length c.noise ≡ 8 → length c.thresholds ≡ 8 → Fit (gate_parts f c) gate_columns
gate_fits f c ln lt = run unsigned 4 8 c.noise ln ▹ refl ▹ refl ▹ run unsigned 2 8 c.thresholds lt ▹ done

pub receiver_fits : (f : RecordFields) → Fit (receiver_parts f) receiver_columns
receiver_fits f = refl ▹ refl ▹ refl ▹ refl ▹ refl ▹ refl ▹ done

pub link_fits : (f : RecordFields) (h : List ℕ) → length h ≡ 2 → Fit (link_parts f h) link_columns
link_fits f h l = run unsigned 4 2 h l ▹ refl ▹ refl ▹ refl ▹ done
