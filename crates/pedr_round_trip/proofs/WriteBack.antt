-- Writing what was read: column by column.
use Prim.Native.Nat.{ℕ, ◌+◌, ◌*◌, ◌/◌, ◌%◌, ◌≤◌}
use mathlib.Core.Path.{◌≡◌, refl, sym, ap, ap₂, ◌∙◌}
use mathlib.Core.Bool.{Bool, true, ◌&&◌}
use mathlib.Core.List.{List, [], ◌∷◌, map}
use native.Mathlib.Nat.{mod-lt}
use native.Mathlib.Omega.{arith}
use borrow.Author.Tests.{lt-ltb}
use lib.Dec.{ltb}
use lib.ListN.{length, take, drop, length-append}
use lib.Seq.{take_at, drop_at}
use Rattle.octets.specs.Bytes.{nat_at, octets_of, part, Octets}
use Rattle.octets.specs.Table.{octets_at, nats_at, ints_at, octets_of_all, each}
use Rattle.octets.proofs.Codec.{octets_part}
use Rattle.octets.proofs.Each.{each_table}
use Rattle.octets.proofs.Fill.{map_table, table_same, octets_count}
use Rattle.octets.specs.Refusal.{after}
use Rattle.octets.proofs.Ladder.{pass_eq, then_fail, then_pass}
use Rattle.octets.proofs.Read.{nat_lt}
use Rattle.layout.specs.Column.{Sign, unsigned, complement, item, number_at, numbers_at, number_octets, numbers_octets, cut, join}
use Rattle.layout.proofs.Cover.{join_cut}
use Rattle.layout.proofs.Values.{write_number, write_numbers}
use Rattle.pedr_layout.specs.Layout as columns
use Rattle.pedr_flags.specs.Quality.{good_count, quality_of}
use Rattle.pedr_flags.specs.Class.{class_of, class_number}
use Rattle.pedr_flags.specs.Descriptor.{descriptor_of}
use Rattle.pedr_flags.specs.Encoder.{encoder_of}
use Rattle.pedr_flags_writer.specs.Encoder.{encoder_byte}
use Rattle.pedr_flags_writer.specs.Quality.{quality_bits}
use Rattle.pedr_flags_writer.proofs.Codes.{quality_whole, count_low, class_whole, encoder_whole}
use Rattle.pedr_flags_writer.proofs.DescriptorRead.{descriptor_whole}
use Rattle.pedr_arrays.specs.Arrays.{classes_of, encoders_of, shot_arrays_of, channel_arrays_of, arrays_of}
use Rattle.pedr_arrays.specs.Uninterpreted.{uninterpreted_of}
use Rattle.pedr_fields.specs.Fields.{time_of, position_of, pointing_of, ranges_of, receiver_of, link_of, fields_of}
use Rattle.pedr_check.specs.Refusal.{record_refusal}
use Rattle.pedr_check.proofs.Accept.{Accepted, accepted}
use Rattle.pedr_codes.specs.Codes.{is_proper, has_two_bits}
use Rattle.pedr_codes.proofs.Proper.{class_proper}
use Rattle.pedr_block.specs.Block.{block_of}
use Rattle.pedr_block.proofs.Frame.{case_is_index}
use Rattle.pedr_block_runs.specs.Runs.{runs_of}
use Rattle.pedr_block_round_trip.specs.Kept.{own_carried}
use Rattle.pedr_block_round_trip.proofs.WriteBack.{block_back, own_length}
use Rattle.pedr_write_check.proofs.Accept.{Proper}
use Rattle.pedr_write_refusal.specs.Refusal.{write_refusal}
use Rattle.pedr_write_refusal.proofs.Accept.{Writable, room_decides}
use Rattle.pedr_writer.specs.Record.{record_parts, record_of}
use Rattle.pedr_round_trip.specs.RoundTrip.{WritesBack, copy_refusal}

module _ (s : List ℕ) (o : Octets s) (z : record_refusal s ≡ 0) where
  a : Accepted s
  a = accepted s z

  -- a column of one number, and a column of several
  one : (g : Sign) (i w : ℕ) → 1 ≤ w → i + w ≤ 776 → number_octets g w (number_at g s i w) ≡ part s i w
  one g i w some h = write_number w some g s i o (rw a.size h)

  several : (g : Sign) (i w n : ℕ) → 1 ≤ w → i + w * n ≤ 776 → numbers_octets g w (numbers_at g s i w n) ≡ part s i (w * n)
  several g i w n some h = write_numbers w some g n s i o (rw a.size h)

  quality_is : quality_bits (quality_of s) ≡ nat_at s 28 3
  unfolding quality_of
  quality_is = quality_whole (nat_at s 28 3) (nat_at s 31 1) (nat_lt s 28 3 o)

  counter_is : good_count (quality_of s).good ≡ nat_at s 31 1
  unfolding quality_of
  counter_is = count_low (nat_at s 28 3) ∙ a.counter

  classes_are : map class_number (classes_of s) ≡ nats_at s 384 2 20
  unfolding classes_of nats_at
  classes_are =
      map_table class_number 20 (λ k. class_of (item s columns.class k))
      ∙ table_same 20 (λ k. class_number (class_of (item s columns.class k))) (λ k. nat_at s (384 + 2 * k) 2) (λ k. class_whole (item s columns.class k))

  encoders_are : map encoder_byte (encoders_of s) ≡ nats_at s 620 1 20
  unfolding encoders_of nats_at
  encoders_are =
      map_table encoder_byte 20 (λ k. encoder_of (item s columns.encoder k))
      ∙ table_same 20 (λ k. encoder_byte (encoder_of (item s columns.encoder k))) (λ k. nat_at s (620 + 1 * k) 1)
      (λ k. encoder_whole (item s columns.encoder k) (o (620 + 1 * k)))

  front_is : take 84 (uninterpreted_of s) ≡ part s 536 84
  unfolding uninterpreted_of
  front_is =
      take_at (octets_at s 536 84) (octets_at s 640 136) 84 (octets_count s 536 84) ∙ octets_part s 536 84 (rw a.size (omega arith))

  rest_is : drop 84 (uninterpreted_of s) ≡ part s 640 136
  unfolding uninterpreted_of
  rest_is =
      drop_at (octets_at s 536 84) (octets_at s 640 136) 84 (octets_count s 536 84) ∙ octets_part s 640 136 (rw a.size (omega arith))

  parts_are : record_parts (fields_of s) (block_of s) (arrays_of s) (runs_of s) (own_carried s) (uninterpreted_of s) ≡ cut s columns.record_columns
  unfolding fields_of time_of position_of pointing_of ranges_of receiver_of link_of arrays_of shot_arrays_of channel_arrays_of ints_at
  parts_are =
      let p0 = one complement 0 4 (omega arith) (omega arith) in
      let p1 = one complement 4 4 (omega arith) (omega arith) in
      let p2 = one unsigned 8 4 (omega arith) (omega arith) in
      let p3 = one complement 12 4 (omega arith) (omega arith) in
      let p4 = one complement 16 4 (omega arith) (omega arith) in
      let p5 = one unsigned 20 4 (omega arith) (omega arith) in
      let p6 = one unsigned 24 4 (omega arith) (omega arith) in
      let p7 = ap (octets_of 3) quality_is ∙ one unsigned 28 3 (omega arith) (omega arith) in
      let p8 = ap (octets_of 1) counter_is ∙ one unsigned 31 1 (omega arith) (omega arith) in
      let p9 = descriptor_whole s o (rw a.size (omega arith)) in
      let p10 = several unsigned 48 4 20 (omega arith) (omega arith) in
      let p11 = one unsigned 128 4 (omega arith) (omega arith) in
      let p12 = one complement 132 4 (omega arith) (omega arith) in
      let p13 = one complement 136 4 (omega arith) (omega arith) in
      let p14 = one complement 140 4 (omega arith) (omega arith) in
      let p15 = several unsigned 144 2 20 (omega arith) (omega arith) in
      let p16 = several unsigned 184 2 20 (omega arith) (omega arith) in
      let p17 = several unsigned 224 1 20 (omega arith) (omega arith) in
      let p18 = several unsigned 244 2 20 (omega arith) (omega arith) in
      let p19 = several unsigned 284 2 20 (omega arith) (omega arith) in
      let p20 = several complement 324 4 3 (omega arith) (omega arith) in
      let p21 = several complement 336 4 2 (omega arith) (omega arith) in
      let p22 = several unsigned 344 2 20 (omega arith) (omega arith) in
      let p23 = ap (octets_of_all 2) classes_are ∙ several unsigned 384 2 20 (omega arith) (omega arith) in
      let p24 = several unsigned 424 4 8 (omega arith) (omega arith) in
      let p25 = one unsigned 456 4 (omega arith) (omega arith) in
      let p26 = one unsigned 460 4 (omega arith) (omega arith) in
      let p27 = several unsigned 464 2 8 (omega arith) (omega arith) in
      let p28 = one unsigned 480 2 (omega arith) (omega arith) in
      let p29 = one unsigned 482 2 (omega arith) (omega arith) in
      let p30 = one unsigned 484 2 (omega arith) (omega arith) in
      let p31 = one unsigned 486 2 (omega arith) (omega arith) in
      let p32 = one unsigned 488 2 (omega arith) (omega arith) in
      let p33 = one unsigned 490 2 (omega arith) (omega arith) in
      let p34 = several unsigned 492 4 2 (omega arith) (omega arith) in
      let p35 = one complement 500 4 (omega arith) (omega arith) in
      let p36 = one complement 504 2 (omega arith) (omega arith) in
      let p37 = one unsigned 506 2 (omega arith) (omega arith) in
      let p38 = block_back s a.index.0 a.index.1 o (rw a.size (omega arith)) in
      let p39 = front_is in
      let p40 = ap (octets_of_all 1) encoders_are ∙ several unsigned 620 1 20 (omega arith) (omega arith) in
      let p41 = rest_is in
      λ i. p0 i ∷ p1 i ∷ p2 i ∷ p3 i ∷ p4 i ∷ p5 i ∷ p6 i ∷ p7 i ∷ p8 i ∷ p9 i ∷ p10 i ∷ p11 i
      ∷ p12 i ∷ p13 i ∷ p14 i ∷ p15 i ∷ p16 i ∷ p17 i ∷ p18 i ∷ p19 i ∷ p20 i ∷ p21 i ∷ p22 i ∷ p23 i
      ∷ p24 i ∷ p25 i ∷ p26 i ∷ p27 i ∷ p28 i ∷ p29 i ∷ p30 i ∷ p31 i ∷ p32 i ∷ p33 i ∷ p34 i ∷ p35 i
      ∷ p36 i ∷ p37 i ∷ p38 i ∷ p39 i ∷ p40 i ∷ p41 i ∷ []

  -- the record's bytes
  bytes_are : record_of (fields_of s) (block_of s) (arrays_of s) (runs_of s) (own_carried s) (uninterpreted_of s) ≡ s
  unfolding record_of
  bytes_are = ap join parts_are ∙ join_cut s columns.record_columns 0 776 refl (sym a.size)

  proper_classes : each is_proper (classes_of s) ≡ true
  unfolding classes_of
  proper_classes = each_table is_proper 20 (λ k. class_of (item s columns.class k)) (λ k. class_proper (item s columns.class k))

  two_bits : each has_two_bits (encoders_of s) ≡ true
  unfolding encoders_of
  two_bits = each_table has_two_bits 20 (λ k. encoder_of (item s columns.encoder k)) (λ k. fits (item s columns.encoder k))
    where
      below : (n : ℕ) → ltb (n % 4) 4 ≡ true
      below n = lt-ltb (n % 4) 4 (mod-lt n (omega arith))

      fits : (b : ℕ) → has_two_bits (encoder_of b) ≡ true
      fits b = ap₂ (λ (x y : Bool). x && y) (ap₂ (λ (x y : Bool). x && y) (below b) (below (b / 4))) (ap₂ (λ (x y : Bool). x && y) (below (b / 16)) (below (b / 64)))

  uninterpreted_length : length (uninterpreted_of s) ≡ 220
  unfolding uninterpreted_of
  uninterpreted_length = length-append (octets_at s 536 84) (octets_at s 640 136) ∙ omega (arith, octets_count s 536 84, octets_count s 640 136)

  given_proper : Proper (fields_of s) (arrays_of s)
  unfolding fields_of time_of position_of receiver_of quality_of descriptor_of arrays_of shot_arrays_of
  given_proper =
      let q = nat_lt s 28 3 o in
      let d = nat_lt s 32 3 o in record {
        values = a.values;
        classes = proper_classes;
        good = omega arith;
        quality_carried = omega arith;
        descriptor_carried = omega arith;
        encoders = two_bits;
      }

  may_write : Writable (fields_of s) (block_of s) (arrays_of s) (own_carried s) (uninterpreted_of s)
  unfolding fields_of receiver_of
  may_write =
      record {
        given = given_proper;
        carried = own_length s a.index.0 a.index.1;
        bytes = uninterpreted_length;
        frame = case_is_index s a.index.0 a.index.1;
      }

  -- the writer refuses only the output
  pub copy_number : (out : List ℕ) → write_refusal (fields_of s) (block_of s) (arrays_of s) (own_carried s) (uninterpreted_of s) out ≡ copy_refusal s out
  unfolding copy_refusal
  copy_number out = sym (room_decides (fields_of s) (block_of s) (arrays_of s) (own_carried s) (uninterpreted_of s) out may_write) ∙ then_pass (record_refusal s) _ _ z refl

  -- and what it writes is the record
  pub copy_bytes : (out : List ℕ)
      → after (write_refusal (fields_of s) (block_of s) (arrays_of s) (own_carried s) (uninterpreted_of s) out)
      (record_of (fields_of s) (block_of s) (arrays_of s) (runs_of s) (own_carried s) (uninterpreted_of s)) out
      ≡ after (copy_refusal s out) s out
  copy_bytes out = λ i. after (copy_number out i) (bytes_are i) out

pub write_back : WritesBack
write_back s out o z room =
    (sym (pass_eq _ _ 41 0 0 room refl ∙ room_decides (fields_of s) (block_of s) (arrays_of s) (own_carried s) (uninterpreted_of s) out (may_write s o z)), bytes_are s o z)

-- a record that the reader refuses
pub copy_refused : (s out : List ℕ) (n : ℕ) → n ≡ record_refusal s → (n ≡ 0 → ⊥) → n ≡ copy_refusal s out
unfolding copy_refusal
copy_refused s out n e ne = then_fail (record_refusal s) _ n e ne
