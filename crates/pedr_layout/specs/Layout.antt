-- Document 01, "PEDR record", the list of columns: record bytes count from 1; i is signed two's complement, u unsigned, the digit is the
-- width in bytes, × the number of items.
use Rattle.std.specs.Prelude.{ℕ, ◌-◌, List, [], ◌∷◌, ◌++◌}
use Rattle.layout.specs.Column.{Column, Sign, unsigned, complement}

-- the shots of a frame
abbrev pub shot_count : ℕ
shot_count = 20

-- record byte b stands at index b - 1
abbrev pub record_column : Sign → ℕ → ℕ → ℕ → Column
record_column g w b n = record { start = b - 1; width = w; items = n; sign = g }

-- the list's own notation: `13 i4` starts at record byte 13, `145 u2× 20` at record byte 145
infix 7 ◌u1 ◌u2 ◌u3 ◌u4 ◌i2 ◌i4 ◌u1×◌ ◌u2×◌ ◌u4×◌ ◌i4×◌
abbrev pub ◌u1 : ℕ → Column
b u1 = record_column unsigned 1 b 1

abbrev pub ◌u2 : ℕ → Column
b u2 = record_column unsigned 2 b 1

abbrev pub ◌u3 : ℕ → Column
b u3 = record_column unsigned 3 b 1

abbrev pub ◌u4 : ℕ → Column
b u4 = record_column unsigned 4 b 1

abbrev pub ◌i2 : ℕ → Column
b i2 = record_column complement 2 b 1

abbrev pub ◌i4 : ℕ → Column
b i4 = record_column complement 4 b 1

abbrev pub ◌u1×◌ : ℕ → ℕ → Column
b u1× n = record_column unsigned 1 b n

abbrev pub ◌u2×◌ : ℕ → ℕ → Column
b u2× n = record_column unsigned 2 b n

abbrev pub ◌u4×◌ : ℕ → ℕ → Column
b u4× n = record_column unsigned 4 b n

abbrev pub ◌i4×◌ : ℕ → ℕ → Column
b i4× n = record_column complement 4 b n

-- frame time, since J2000
abbrev pub time_whole : Column
time_whole = 1 i4

abbrev pub time_micros : Column
time_micros = 5 i4

abbrev pub orbit : Column
orbit = 9 u4

abbrev pub latitude : Column
latitude = 13 i4

abbrev pub longitude : Column
longitude = 17 i4

abbrev pub radial_distance : Column
radial_distance = 21 u4

abbrev pub mid_point_range : Column
mid_point_range = 25 u4

-- quality (4 bytes): bytes 29-31 are one number, byte 32 a counter
abbrev pub quality_number : Column
quality_number = 29 u3

abbrev pub quality_counter : Column
quality_counter = 32 u1

-- descriptor (16 bytes)
abbrev pub descriptor : Column
descriptor = 33 u1× 16

abbrev pub radius : Column
radius = 49 u4× 20

abbrev pub frame_radius : Column
frame_radius = 129 u4

abbrev pub right_ascension : Column
right_ascension = 133 i4

abbrev pub declination : Column
declination = 137 i4

abbrev pub twist : Column
twist = 141 i4

abbrev pub energy : Column
energy = 145 u2× 20

abbrev pub reflectivity : Column
reflectivity = 185 u2× 20

abbrev pub trigger_channel : Column
trigger_channel = 225 u1× 20

abbrev pub pulse_width : Column
pulse_width = 245 u2× 20

abbrev pub optical_width : Column
optical_width = 285 u2× 20

abbrev pub xyz : Column
xyz = 325 i4× 3

-- ground latitude, longitude
abbrev pub ground : Column
ground = 337 i4× 2

abbrev pub laser_power : Column
laser_power = 345 u2× 20

abbrev pub class : Column
class = 385 u2× 20

abbrev pub noise : Column
noise = 425 u4× 8

abbrev pub delay : Column
delay = 457 u4

abbrev pub width : Column
width = 461 u4

-- the column's 8 items of 2 bytes decide over the text's four-byte values
abbrev pub thresholds : Column
thresholds = 465 u2× 8

abbrev pub channel_mask : Column
channel_mask = 481 u2

abbrev pub minimum_hits : Column
minimum_hits = 483 u2

abbrev pub hit_count : Column
hit_count = 485 u2

abbrev pub frame_counter : Column
frame_counter = 487 u2

abbrev pub trigger : Column
trigger = 489 u2

abbrev pub frame_index : Column
frame_index = 491 u2

abbrev pub source_header : Column
source_header = 493 u4× 2

abbrev pub packet_seconds : Column
packet_seconds = 501 i4

abbrev pub packet_millis : Column
packet_millis = 505 i2

abbrev pub fine_time : Column
fine_time = 507 u2

-- the engineering block, bytes 509-536, whose columns go by the frame index
abbrev pub block : Column
block = 509 u1× 28

-- bytes 537-620 are not interpreted
abbrev pub uninterpreted537 : Column
uninterpreted537 = 537 u1× 84

-- encoder bytes are 621-640, one per shot
abbrev pub encoder : Column
encoder = 621 u1× 20

-- bytes 641-776 are not interpreted
abbrev pub uninterpreted641 : Column
uninterpreted641 = 641 u1× 136

-- bytes 1 to 508
abbrev pub listed_columns : List Column
listed_columns =
    time_whole ∷ time_micros ∷ orbit ∷ latitude ∷ longitude ∷ radial_distance ∷ mid_point_range ∷ quality_number ∷ quality_counter ∷ descriptor ∷ radius ∷ frame_radius
    ∷ right_ascension ∷ declination ∷ twist ∷ energy ∷ reflectivity ∷ trigger_channel ∷ pulse_width ∷ optical_width ∷ xyz ∷ ground ∷ laser_power ∷ class ∷ noise ∷ delay
    ∷ width ∷ thresholds ∷ channel_mask ∷ minimum_hits ∷ hit_count ∷ frame_counter ∷ trigger ∷ frame_index ∷ source_header ∷ packet_seconds ∷ packet_millis ∷ fine_time ∷ []

-- the whole record, bytes 1 to 776
abbrev pub record_size : ℕ
record_size = 776

abbrev pub record_columns : List Column
record_columns = listed_columns ++ block ∷ uninterpreted537 ∷ encoder ∷ uninterpreted641 ∷ []
