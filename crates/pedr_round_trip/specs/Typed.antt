-- What the types of a record's fields and arrays say of their values, as far as a round trip needs it: refusal 49 bounds the bits of the quality, the
-- descriptor and the encoders.
use Rattle.std.specs.Prelude.{◌^◌, ◌<◌, ◌≡◌, map, length}
use Rattle.octets.specs.Bytes.{SignedFits}
use Rattle.layout.specs.Column.{unsigned, complement, HoldsAll}
use Rattle.pedr_layout.specs.Layout as columns
use Rattle.pedr_arrays.specs.declared.ShotArrays.{ShotArrays}
use Rattle.pedr_arrays.specs.declared.RecordArrays.{RecordArrays}
use Rattle.pedr_fields.specs.declared.RecordFields.{RecordFields}
use Rattle.pedr_flags.specs.Class.{class_number}

pub record TypedFields (f : RecordFields) : Type 0 where
  pub whole : SignedFits 32 f.time.whole
  pub micros : SignedFits 32 f.time.micros
  pub orbit : f.position.orbit < 2 ^ 32
  pub latitude : SignedFits 32 f.position.latitude
  pub longitude : SignedFits 32 f.position.longitude
  pub radial_distance : f.position.radial_distance < 2 ^ 32
  pub ground_latitude : SignedFits 32 f.position.ground_latitude
  pub ground_longitude : SignedFits 32 f.position.ground_longitude
  pub right_ascension : SignedFits 32 f.pointing.right_ascension
  pub declination : SignedFits 32 f.pointing.declination
  pub twist : SignedFits 32 f.pointing.twist
  pub mid_point_range : f.ranges.mid_point_range < 2 ^ 32
  pub frame_radius : f.ranges.frame_radius < 2 ^ 32
  pub delay : f.ranges.delay < 2 ^ 32
  pub width : f.ranges.width < 2 ^ 32
  pub channel_mask : f.receiver.channel_mask < 2 ^ 16
  pub minimum_hits : f.receiver.minimum_hits < 2 ^ 16
  pub hit_count : f.receiver.hit_count < 2 ^ 16
  pub frame_counter : f.receiver.frame_counter < 2 ^ 16
  pub trigger : f.receiver.trigger < 2 ^ 16
  pub frame_index : f.receiver.frame_index < 2 ^ 16
  pub seconds : SignedFits 32 f.link.seconds
  pub millis : SignedFits 16 f.link.millis
  pub fine_time : f.link.fine_time < 2 ^ 16

-- 20 shots, whose numbers have so many bytes each
pub record TypedShots (s : ShotArrays) : Type 0 where
  pub radius : (length s.radius ≡ columns.shot_count) × HoldsAll unsigned 4 s.radius
  pub energy : (length s.energy ≡ columns.shot_count) × HoldsAll unsigned 2 s.energy
  pub reflectivity : (length s.reflectivity ≡ columns.shot_count) × HoldsAll unsigned 2 s.reflectivity
  pub trigger_channel : (length s.trigger_channel ≡ columns.shot_count) × HoldsAll unsigned 1 s.trigger_channel
  pub pulse_width : (length s.pulse_width ≡ columns.shot_count) × HoldsAll unsigned 2 s.pulse_width
  pub optical_width : (length s.optical_width ≡ columns.shot_count) × HoldsAll unsigned 2 s.optical_width
  pub laser_power : (length s.laser_power ≡ columns.shot_count) × HoldsAll unsigned 2 s.laser_power
  pub class : (length s.class ≡ columns.shot_count) × HoldsAll unsigned 2 (map class_number s.class)
  pub encoder : length s.encoder ≡ columns.shot_count
  pub failures : length s.failures ≡ columns.shot_count

pub record TypedArrays (a : RecordArrays) : Type 0 where
  pub shots : TypedShots a.shots
  pub noise : (length a.channels.noise ≡ 8) × HoldsAll unsigned 4 a.channels.noise
  pub thresholds : (length a.channels.thresholds ≡ 8) × HoldsAll unsigned 2 a.channels.thresholds
  pub xyz : (length a.xyz ≡ 3) × HoldsAll complement 4 a.xyz
  pub source_header : (length a.source_header ≡ 2) × HoldsAll unsigned 4 a.source_header
