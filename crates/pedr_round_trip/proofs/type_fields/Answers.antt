-- Field by field, by its type.
use borrow.Author.Rules.{rules}
use Rattle.pedr_round_trip.proofs.Bounds.{signed_16, signed_32}
use Rattle.pedr_round_trip.proofs.type_fields.Goals as goal

pub returns : goal.returns
returns c =
    record {
      whole = signed_32 c.args.fields.time.whole (search rules);
      micros = signed_32 c.args.fields.time.micros (search rules);
      orbit = search rules;
      latitude = signed_32 c.args.fields.position.latitude (search rules);
      longitude = signed_32 c.args.fields.position.longitude (search rules);
      radial_distance = search rules;
      ground_latitude = signed_32 c.args.fields.position.ground_latitude (search rules);
      ground_longitude = signed_32 c.args.fields.position.ground_longitude (search rules);
      right_ascension = signed_32 c.args.fields.pointing.right_ascension (search rules);
      declination = signed_32 c.args.fields.pointing.declination (search rules);
      twist = signed_32 c.args.fields.pointing.twist (search rules);
      mid_point_range = search rules;
      frame_radius = search rules;
      delay = search rules;
      width = search rules;
      channel_mask = search rules;
      minimum_hits = search rules;
      hit_count = search rules;
      frame_counter = search rules;
      trigger = search rules;
      frame_index = search rules;
      seconds = signed_32 c.args.fields.link.seconds (search rules);
      millis = signed_16 c.args.fields.link.millis (search rules);
      fine_time = search rules;
    }
