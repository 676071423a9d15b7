-- Request 1, "Precision records written": every field read and the carried bits. The bytes of the record's columns from byte 1 to 508, in the order of its
-- table.
use Rattle.std.specs.Prelude.{ℕ, List, [], ◌∷◌, map}
use Rattle.layout.specs.Column.{holding, holding_all}
use Rattle.pedr_layout.specs.Layout as columns
use Rattle.pedr_flags.specs.Quality.{good_count}
use Rattle.pedr_flags_writer.specs.Quality.{quality_bits}
use Rattle.pedr_flags_writer.specs.Descriptor.{descriptor_octets}
use Rattle.pedr_flags.specs.Class.{class_number}
use Rattle.pedr_arrays.specs.declared.ShotArrays.{ShotArrays}
use Rattle.pedr_arrays.specs.declared.ChannelArrays.{ChannelArrays}
use Rattle.pedr_arrays.specs.declared.RecordArrays.{RecordArrays}
use Rattle.pedr_fields.specs.declared.RecordFields.{RecordFields}

-- bytes 1 to 32. The writer works out the quality counter itself: the number of ones in bits 0 to 19
abbrev pub head_parts : RecordFields → List (List ℕ)
head_parts f =
    holding columns.time_whole f.time.whole
    ∷ holding columns.time_micros f.time.micros
    ∷ holding columns.orbit f.position.orbit
    ∷ holding columns.latitude f.position.latitude
    ∷ holding columns.longitude f.position.longitude
    ∷ holding columns.radial_distance f.position.radial_distance
    ∷ holding columns.mid_point_range f.ranges.mid_point_range
    ∷ holding columns.quality_number (quality_bits f.quality)
    ∷ holding columns.quality_counter (good_count f.quality.good)
    ∷ []

-- bytes 33 to 144
abbrev pub radii_parts : RecordFields → ShotArrays → List (List ℕ)
radii_parts f s =
    descriptor_octets f.descriptor s.failures
    ∷ holding_all columns.radius s.radius
    ∷ holding columns.frame_radius f.ranges.frame_radius
    ∷ holding columns.right_ascension f.pointing.right_ascension
    ∷ holding columns.declination f.pointing.declination
    ∷ holding columns.twist f.pointing.twist
    ∷ []

-- bytes 145 to 324
abbrev pub pulse_parts : ShotArrays → List (List ℕ)
pulse_parts s =
    holding_all columns.energy s.energy
    ∷ holding_all columns.reflectivity s.reflectivity
    ∷ holding_all columns.trigger_channel s.trigger_channel
    ∷ holding_all columns.pulse_width s.pulse_width
    ∷ holding_all columns.optical_width s.optical_width
    ∷ []

-- bytes 325 to 424
abbrev pub ground_parts : RecordFields → RecordArrays → List (List ℕ)
ground_parts f a =
    holding_all columns.xyz a.xyz
    ∷ holding_all columns.ground (f.position.ground_latitude ∷ f.position.ground_longitude ∷ [])
    ∷ holding_all columns.laser_power a.shots.laser_power
    ∷ holding_all columns.class (map class_number a.shots.class)
    ∷ []

-- bytes 425 to 480
abbrev pub gate_parts : RecordFields → ChannelArrays → List (List ℕ)
gate_parts f c =
    holding_all columns.noise c.noise
    ∷ holding columns.delay f.ranges.delay
    ∷ holding columns.width f.ranges.width
    ∷ holding_all columns.thresholds c.thresholds
    ∷ []

-- bytes 481 to 492
abbrev pub receiver_parts : RecordFields → List (List ℕ)
receiver_parts f =
    holding columns.channel_mask f.receiver.channel_mask
    ∷ holding columns.minimum_hits f.receiver.minimum_hits
    ∷ holding columns.hit_count f.receiver.hit_count
    ∷ holding columns.frame_counter f.receiver.frame_counter
    ∷ holding columns.trigger f.receiver.trigger
    ∷ holding columns.frame_index f.receiver.frame_index
    ∷ []

-- bytes 493 to 508
abbrev pub link_parts : RecordFields → List ℕ → List (List ℕ)
link_parts f header =
    holding_all columns.source_header header
    ∷ holding columns.packet_seconds f.link.seconds
    ∷ holding columns.packet_millis f.link.millis
    ∷ holding columns.fine_time f.link.fine_time
    ∷ []
