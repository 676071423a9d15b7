-- Document 01, "Numbers to check by": the cases marked P, as one table. Each row is computed by the definitions that the contracts cite.
use Rattle.std.specs.Prelude.{ℕ, suc, ◌+◌, ◌-◌, ◌*◌, ◌^◌, ◌≡◌, true, false, List, [], ◌∷◌, ◌++◌, pos, neg_ℤ, replicate}
use Rattle.octets.specs.Bytes.{octets_of, put}
use Rattle.octets.specs.Refusal.{refused, answered}
use Rattle.octets.specs.Table.{table}
use Rattle.layout.specs.Column.{Column}
use Rattle.checksum.specs.Sum.{word_at}
use Rattle.packet_layout.specs.Layout.{carried}
use Rattle.packet_bins.specs.Bins.{bin_byte, first_bin}
use Rattle.packet_check.specs.Refusal.{read_refusal}
use Rattle.packet.specs.Fields.{no_arrays}
use Rattle.packet.specs.declared.PacketFields.{PacketFields}
use Rattle.packet_writer.specs.Write.{packet_of}
use Rattle.pedr_layout.specs.Layout.{◌u1, time_whole, time_micros, quality_number, quality_counter, frame_index, record_size}
use Rattle.pedr_flags.specs.Quality.{good_shot, quality_of}
use Rattle.pedr_flags.specs.Descriptor.{byte_of_bit, place_of_bit, failed}
use Rattle.pedr_flags.specs.Encoder.{encoder_of}
use Rattle.pedr_fields.specs.Time.{time_in_micros}
use Rattle.pedr_fields.specs.Fields.{time_of}
use Rattle.pedr_check.specs.Refusal.{record_refusal}
use Rattle.position.specs.declared.Anchor.{Anchor}
use Rattle.position.specs.Position.{position, published_tolerance}
use Rattle.window.specs.Window.{holding, first_window, no_window}
use Rattle.reorder_session.specs.declared.Session.{Session}
use Rattle.reorder_session.specs.Calls.{offer_due, turn, serve_refusal}
use Rattle.reorder_rules.specs.declared.Turn.TheVariants.{Missing, Waiting}

-- the free fields of a packet with this count and coarse time, all others zero
unfoldable pub counted : ℕ → ℕ → PacketFields
counted n t = record {
  error_status = 0;
  count = n;
  coarse_time = t;
  fine_time = 0;
  status_register = 0;
  software_version = 0;
  ram_flag_word = 0;
  status_word_1 = 0;
  status_word_2 = 0;
  software_checksum = 0;
  commands_received = 0;
  command_errors = 0;
  transmitter_threshold = 0;
  tracking_status = 0;
  hstart = 0;
}

-- the packet with this count and time, the sum's place 53, all other free bytes zero
unfoldable pub timed_packet : ℕ → ℕ → List ℕ
timed_packet n t = packet_of (counted n t) no_arrays (replicate carried.items 0) 53

unfoldable pub zero_packet : ℕ → List ℕ
zero_packet n = timed_packet n 0

-- the bytes s with the number x in the column c, and with -x there
infixl 4 ◌with◌at◌ ◌with-minus◌at◌
abbrev pub ◌with◌at◌ : List ℕ → ℕ → Column → List ℕ
s with x at c = put s c.start (octets_of c.width x)

abbrev pub ◌with-minus◌at◌ : List ℕ → ℕ → Column → List ℕ
s with-minus x at c = s with (256 ^ c.width - x) at c

-- a record of zeros but for frame index 1; with this quality number and counter; with this time, both parts negative
unfoldable pub zero_record : List ℕ
zero_record = replicate record_size 0 with 1 at frame_index

unfoldable pub quality_record : ℕ → ℕ → List ℕ
quality_record q n = zero_record with q at quality_number with n at quality_counter

unfoldable pub time_record : ℕ → ℕ → List ℕ
time_record whole micros = zero_record with-minus whole at time_whole with-minus micros at time_micros

-- the anchor with c0 16,380 and t0 1,000,000, and a session that it opens
abbrev pub anchor : Anchor
anchor = record { count = 16380; time = 1000000 }

abbrev pub anchored : Session
anchored = record { anchor = anchor; sum_word = 53; threshold = 3; window = first_window }

-- next 0, H 3, and only this position held; the anchor has count 0 and time 0
abbrev pub holding_only : ℕ → Session
holding_only p = record {
  anchor = record { count = 0; time = 0 };
  sum_word = 53;
  threshold = 3;
  window = holding no_window p;
}

pub record Cases : Type 0 where
  -- count 0, place 53, all free bytes zero: sum 35 + 49,152 + 1,073 = 50,260
  pub sum_of_count_0 : word_at (zero_packet 0) 53 ≡ 50260
  pub sum_of_count_0_by_words : 35 + 49152 + 1073 ≡ 50260
  pub count_0_accepted : read_refusal (zero_packet 0) 53 ≡ 0
  -- count 16,383: sum 1,107, and 1,108 gives 10
  pub sum_of_count_16383 : word_at (zero_packet 16383) 53 ≡ 1107
  pub sum_1107_accepted : read_refusal (put (zero_packet 16383) (53 * 2) (octets_of 2 1107)) 53 ≡ 0
  pub sum_1108_refused : read_refusal (put (zero_packet 16383) (53 * 2) (octets_of 2 1108)) 53 ≡ 10
  -- HSTART 7, 3, 2, 1 give first bin 4, 0, 0, 65,534
  pub hstart_7 : first_bin 7 ≡ 4
  pub hstart_3 : first_bin 3 ≡ 0
  pub hstart_2 : first_bin 2 ≡ 0
  pub hstart_1 : first_bin 1 ≡ 65534
  -- bin 0 is packet byte 57, bin 47 byte 102
  pub bin_0 : bin_byte 0 ≡ 57
  pub bin_47 : bin_byte 47 ≡ 102
  -- quality 0x080001 with counter 2: shots 1 and 20
  pub quality_accepted : record_refusal (quality_record 0x080001 2) ≡ 0
  pub quality_shots : table 20 (λ k. good_shot (quality_of (quality_record 0x080001 2)).good (suc k)) ≡ true ∷ (replicate 18 false ++ (true ∷ []))
  -- 0x100000 with counter 0 is accepted
  pub carried_bit_accepted : record_refusal (quality_record 0x100000 0) ≡ 0
  -- descriptor bit 23 is byte 46, bit 7
  pub bit_23_byte : byte_of_bit 23 ≡ 46
  pub bit_23_place : place_of_bit 23 ≡ 7
  pub bit_23_set : failed (zero_record with (2 ^ 7) at (46 u1)) 23 ≡ true
  -- encoder 0x21: start 1, stop 2
  pub encoder_start : (encoder_of 0x21).start ≡ 1
  pub encoder_stop : (encoder_of 0x21).stop ≡ 2
  -- whole -187,606,958, µs -864,490: -187,606,958,864,490
  pub time_accepted : record_refusal (time_record 187606958 864490) ≡ 0
  pub negative_whole : (time_of (time_record 187606958 864490)).whole ≡ neg_ℤ (pos 187606958)
  pub negative_micros : (time_of (time_record 187606958 864490)).micros ≡ neg_ℤ (pos 864490)
  pub negative_in_micros : time_in_micros (time_of (time_record 187606958 864490)) ≡ neg_ℤ (pos 187606958864490)
  -- µs -1,000,000 gives 13
  pub micros_refused : record_refusal (time_record 0 1000000) ≡ 13
  -- c0 16,380, t0 1,000,000. Count 5 at 1,000,126 is position 9; at 1,229,502 it is 16,393; at 1,003,726 still 9; at 1,003,727 gives 21
  pub at_1000126 : position anchor 5 1000126 published_tolerance ≡ answered (pos 9)
  pub at_1229502 : position anchor 5 1229502 published_tolerance ≡ answered (pos 16393)
  pub at_1003726 : position anchor 5 1003726 published_tolerance ≡ answered (pos 9)
  pub at_1003727 : position anchor 5 1003727 published_tolerance ≡ refused 21
  pub offer_1000126 : offer_due anchored 34560 (timed_packet 5 1000126) ≡ answered 9
  pub offer_1003727 : offer_due anchored 34560 (timed_packet 5 1003727) ≡ refused 21
  -- count 16,379 at 999,986 is -1: 23
  pub at_999986 : position anchor 16379 999986 published_tolerance ≡ answered (neg_ℤ (pos 1))
  pub offer_999986 : offer_due anchored 34560 (timed_packet 16379 999986) ≡ refused 23
  -- next 0, H 3, only position 2 held: Waiting; only 3 held: Missing 0
  pub serve_2_held : serve_refusal (holding_only 2) 34560 1080 ≡ 0
  pub only_2_held : turn (holding_only 2) ≡ Waiting
  pub serve_3_held : serve_refusal (holding_only 3) 34560 1080 ≡ 0
  pub only_3_held : turn (holding_only 3) ≡ Missing 0
  -- position 31 is held, 32 gives 25
  pub position_31 : offer_due (holding_only 2) 34560 (timed_packet 31 (14 * 31)) ≡ answered 31
  pub position_32 : offer_due (holding_only 2) 34560 (timed_packet 32 (14 * 32)) ≡ refused 25
