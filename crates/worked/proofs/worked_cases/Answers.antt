-- Every row by computation.
use mathlib.Core.Path.{refl}
use Rattle.reorder_rules.specs.Turn as Turn-rules
use Rattle.reorder_rules.specs.Serve as Serve-rules
use Rattle.reorder_rules.specs.Offer as Offer-rules
use Rattle.octets.specs.Bytes.{put}
use Rattle.octets.specs.Refusal.{refuse◌unless◌else◌, ◌then◌, say}
use Rattle.checksum.specs.Sum.{word_sum, zeroed, packet_sum}
use Rattle.packet_bins.specs.Bins.{first_bin}
use Rattle.packet_check.specs.Header.{header_refusal}
use Rattle.packet_check.specs.Refusal.{read_refusal}
use Rattle.packet.specs.Fields.{fields_of}
use Rattle.packet_writer.specs.Write.{histogram_of, unsummed, packet_of}
use Rattle.numbers.specs.Bit.{bits_set}
use Rattle.pedr_flags.specs.Quality.{quality_of}
use Rattle.pedr_fields.specs.Fields.{time_of}
use Rattle.pedr_check.specs.Refusal.{record_refusal, values_refusal}
use Rattle.position.specs.Position.{position}
use Rattle.window.specs.Window.{held_at, some_among, some_held}
use Rattle.reorder_session.specs.Session.{past_end, broken}
use Rattle.reorder_rules.specs.Outcome.{refusing}
use Rattle.reorder_rules.specs.Offer.{position_refusal, admitted}
use Rattle.worked.specs.Cases.{counted, timed_packet, zero_packet, zero_record, quality_record, time_record}
use Rattle.worked.proofs.worked_cases.Goals as goal

pub returns : goal.returns
unfolding put refuse◌unless◌else◌ ◌then◌ word_sum zeroed packet_sum first_bin header_refusal read_refusal histogram_of unsummed packet_of fields_of counted timed_packet zero_packet zero_record quality_record time_record bits_set quality_of time_of record_refusal values_refusal say position held_at some_among some_held past_end broken refusing position_refusal admitted Offer-rules.offer_refusal Offer-rules.offer_due Turn-rules.turn Serve-rules.serve_refusal
returns c =
    record {
      sum_of_count_0 = refl;
      sum_of_count_0_by_words = refl;
      count_0_accepted = refl;
      sum_of_count_16383 = refl;
      sum_1107_accepted = refl;
      sum_1108_refused = refl;
      hstart_7 = refl;
      hstart_3 = refl;
      hstart_2 = refl;
      hstart_1 = refl;
      bin_0 = refl;
      bin_47 = refl;
      quality_accepted = refl;
      quality_shots = refl;
      carried_bit_accepted = refl;
      bit_23_byte = refl;
      bit_23_place = refl;
      bit_23_set = refl;
      encoder_start = refl;
      encoder_stop = refl;
      time_accepted = refl;
      negative_whole = refl;
      negative_micros = refl;
      negative_in_micros = refl;
      micros_refused = refl;
      at_1000126 = refl;
      at_1229502 = refl;
      at_1003726 = refl;
      at_1003727 = refl;
      offer_1000126 = refl;
      offer_1003727 = refl;
      at_999986 = refl;
      offer_999986 = refl;
      serve_2_held = refl;
      only_2_held = refl;
      serve_3_held = refl;
      only_3_held = refl;
      position_31 = refl;
      position_32 = refl;
    }
