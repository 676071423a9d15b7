-- Document 01, "PEDR record": the columns of one item, and the ground's two, by the table of the layout, grouped by meaning;
-- quality and descriptor by their bits.
use Rattle.std.specs.Prelude.{ℕ, List}
use Rattle.layout.specs.Column.{value, item}
use Rattle.pedr_layout.specs.Layout as columns
use Rattle.pedr_flags.specs.Quality.{quality_of}
use Rattle.pedr_flags.specs.Descriptor.{descriptor_of}
use Rattle.pedr_fields.specs.declared.FrameTime.{FrameTime}
use Rattle.pedr_fields.specs.declared.OrbitPosition.{OrbitPosition}
use Rattle.pedr_fields.specs.declared.Pointing.{Pointing}
use Rattle.pedr_fields.specs.declared.Ranges.{Ranges}
use Rattle.pedr_fields.specs.declared.Receiver.{Receiver}
use Rattle.pedr_fields.specs.declared.PacketLink.{PacketLink}
use Rattle.pedr_fields.specs.declared.RecordFields.{RecordFields}

unfoldable pub time_of : List ℕ → FrameTime
time_of s = record { whole = value s columns.time_whole; micros = value s columns.time_micros }

unfoldable pub position_of : List ℕ → OrbitPosition
position_of s =
    record {
      orbit = value s columns.orbit;
      latitude = value s columns.latitude;
      longitude = value s columns.longitude;
      radial_distance = value s columns.radial_distance;
      ground_latitude = item s columns.ground 0;
      ground_longitude = item s columns.ground 1;
    }

unfoldable pub pointing_of : List ℕ → Pointing
pointing_of s =
    record {
      right_ascension = value s columns.right_ascension;
      declination = value s columns.declination;
      twist = value s columns.twist;
    }

unfoldable pub ranges_of : List ℕ → Ranges
ranges_of s =
    record {
      mid_point_range = value s columns.mid_point_range;
      frame_radius = value s columns.frame_radius;
      delay = value s columns.delay;
      width = value s columns.width;
    }

unfoldable pub receiver_of : List ℕ → Receiver
receiver_of s =
    record {
      channel_mask = value s columns.channel_mask;
      minimum_hits = value s columns.minimum_hits;
      hit_count = value s columns.hit_count;
      frame_counter = value s columns.frame_counter;
      trigger = value s columns.trigger;
      frame_index = value s columns.frame_index;
    }

unfoldable pub link_of : List ℕ → PacketLink
link_of s =
    record {
      seconds = value s columns.packet_seconds;
      millis = value s columns.packet_millis;
      fine_time = value s columns.fine_time;
    }

unfoldable pub fields_of : List ℕ → RecordFields
fields_of s =
    record {
      time = time_of s;
      position = position_of s;
      quality = quality_of s;
      descriptor = descriptor_of s;
      pointing = pointing_of s;
      ranges = ranges_of s;
      receiver = receiver_of s;
      link = link_of s;
    }
