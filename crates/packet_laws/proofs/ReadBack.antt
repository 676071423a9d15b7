-- Reading what was written: column by column, then the sum.
use Prim.Native.Nat.{ℕ, ◌+◌, ◌-◌, ◌*◌, ◌/◌, ◌%◌, ◌<◌, ◌≤◌}
use mathlib.Core.Path.{◌≡◌, refl, sym, ap, ◌∙◌}
use mathlib.Core.List.{List, [], ◌∷◌}
use native.Mathlib.Omega.{arith}
use lib.ListN.{length, get_or}
use lib.Seq.{ext_get_or}
use Rattle.octets.specs.Bytes.{octets_of, put}
use Rattle.octets.proofs.Codec.{octets_part, part_at, read_one, read_write}
use Rattle.octets.specs.Refusal.{answered}
use Rattle.octets.proofs.Ladder.{say_answered, after_done, answer_said}
use Rattle.octets.proofs.Store.{put_length, put_over, put_there}
use Rattle.layout.specs.Column.{value, cut}
use Rattle.checksum.specs.Sum.{packet_sum, word_at, word_sum, zeroed}
use Rattle.checksum.proofs.Sum.{sum_lt}
use Rattle.packet_bins.specs.Bins.{bin_byte, bins_of}
use Rattle.packet_bins.proofs.Swap.{bins_length, bins_at, bin_byte_range, bin_byte_twice}
use Rattle.packet_layout.specs.Layout as columns
use Rattle.packet_check.specs.Refusal.{read_refusal}
use Rattle.packet_check.proofs.Accept.{Accepted, accepts}
use Rattle.packet.specs.Fields.{fields_of, arrays_of, no_arrays}
use Rattle.packet.specs.declared.PacketFields.{PacketFields}
use Rattle.packet.specs.declared.PacketArrays.{PacketArrays}
use Rattle.packet.specs.declared.Packet.{Packet}
use Rattle.packet.specs.Read.{packet_due}
use Rattle.packet_writer.specs.Write.{id_word, sequence_word, parts_of, unsummed, packet_of, write_refusal}
use Rattle.packet_writer.proofs.Accept.{Writable, writable}
use Rattle.packet_writer.proofs.Histogram.{histogram_at}
use Rattle.packet_laws.specs.RoundTrip.{Typed, ReadsBack}
use Rattle.packet_laws.proofs.Columns.{put_carried, columns_are, unsummed_length}

-- bytes whose columns are the parts of f, a and y
module _ (f : PacketFields) (a : PacketArrays) (y bs : List ℕ) (t : Typed f a) (hc : f.count ≤ 16383) (he : f.error_status ≤ 7)
    (size : length bs ≡ 1080) (cuts : cut bs columns.packet_columns ≡ parts_of f a y) where
  col : (k : ℕ) → get_or (cut bs columns.packet_columns) k [] ≡ get_or (parts_of f a y) k []
  col k = ap (λ (ps : List (List ℕ)). get_or ps k []) cuts

  id_is : value bs columns.packet_id ≡ id_word f
  id_is = read_write 2 bs 0 (id_word f) (col 0) (omega arith)

  sequence_is : value bs columns.sequence_control ≡ sequence_word f
  sequence_is = read_write 2 bs 2 (sequence_word f) (col 1) (omega arith)

  length_is : value bs columns.packet_length ≡ 1073
  length_is = read_write 2 bs 4 1073 (col 2) (omega arith)

  type_is : value bs columns.packet_type ≡ 0
  type_is = read_one bs 11 0 (col 5)

  fields_are : fields_of bs ≡ f
  unfolding fields_of
  fields_are =
      let error : value bs columns.packet_id / 256 % 8 ≡ f.error_status = ap (λ (n : ℕ). n / 256 % 8) id_is ∙ omega arith in
      let count : value bs columns.sequence_control % 16384 ≡ f.count = ap (λ (n : ℕ). n % 16384) sequence_is ∙ omega arith in
      λ i. record {
        error_status = error i;
        count = count i;
        coarse_time = read_write 4 bs 6 f.coarse_time (col 3) t.time_fits i;
        fine_time = read_one bs 10 f.fine_time (col 4) i;
        status_register = read_one bs 42 f.status_register (col 8) i;
        software_version = read_one bs 43 f.software_version (col 9) i;
        ram_flag_word = read_write 2 bs 44 f.ram_flag_word (col 10) t.flags_fit i;
        status_word_1 = read_write 2 bs 46 f.status_word_1 (col 11) t.word1_fits i;
        status_word_2 = read_write 2 bs 48 f.status_word_2 (col 12) t.word2_fits i;
        software_checksum = read_write 2 bs 50 f.software_checksum (col 13) t.checksum_fits i;
        commands_received = read_one bs 52 f.commands_received (col 14) i;
        command_errors = read_one bs 53 f.command_errors (col 15) i;
        transmitter_threshold = read_one bs 54 f.transmitter_threshold (col 16) i;
        tracking_status = read_one bs 55 f.tracking_status (col 17) i;
        hstart = read_write 2 bs 104 f.hstart (col 19) t.hstart_fits i;
      }

  bins_are : bins_of bs ≡ a.bins
  bins_are =
      ext_get_or 0 (bins_of bs) a.bins (bins_length bs ∙ sym t.bins_count)
      (λ j q. let h : j < 48 = rw (bins_length bs) at q in
      let k : ℕ = bin_byte j - 56 in
      let r = bin_byte_range j h in
      let twice : bin_byte k ≡ 56 + j = bin_byte_twice j in
      bins_at bs j h
      ∙ ap (λ (n : ℕ). get_or bs n 0) (omega arith)
      ∙ sym (part_at bs 56 48 k (omega arith))
      ∙ ap (λ (s : List ℕ). get_or s k 0) (col 18)
      ∙ histogram_at a.bins k (omega arith)
      ∙ ap (λ (n : ℕ). get_or a.bins n 0) (omega arith))

  arrays_are : arrays_of bs ≡ a
  unfolding arrays_of
  arrays_are =
      let temperatures = octets_part bs 12 16 (omega arith) ∙ col 6 in
      let readings = octets_part bs 28 14 (omega arith) ∙ col 7 in
      λ i. record { temperatures = temperatures i; readings = readings i; bins = bins_are i }

  is_accepted : (word : ℕ) → 53 ≤ word → word ≤ 539 → packet_sum bs word ≡ word_at bs word → Accepted bs word
  is_accepted word from to sum = record {
    size = size;
    from = from;
    to = to;
    version_is = ap (λ (n : ℕ). n / 8192 % 8) id_is ∙ omega arith;
    spare_is = ap (λ (n : ℕ). n / 4096 % 2) id_is ∙ omega arith;
    flag_is = ap (λ (n : ℕ). n / 2048 % 2) id_is ∙ omega arith;
    instrument_is = ap (λ (n : ℕ). n % 256) id_is ∙ omega arith;
    segmentation_is = ap (λ (n : ℕ). n / 16384 % 4) sequence_is ∙ omega arith;
    length_is = length_is;
    type_is = type_is;
    sum_is = sum;
  }

-- a sum stored at its word changes nothing of the sum, and is read there
pub sum_stored : (u : List ℕ) (word n : ℕ) → word * 2 + 2 ≤ length u → packet_sum (put u (word * 2) (octets_of 2 n)) word ≡ packet_sum u word
unfolding packet_sum zeroed
sum_stored u word n h = ap (λ (s : List ℕ). word_sum s % 65536) (put_over u (octets_of 2 n) (0 ∷ 0 ∷ []) (word * 2) h refl)

word_stored : (u : List ℕ) (word n : ℕ) → word * 2 + 2 ≤ length u → n < 65536 → word_at (put u (word * 2) (octets_of 2 n)) word ≡ n
word_stored u word n h l = read_write 2 (put u (word * 2) (octets_of 2 n)) (word * 2) n (put_there u (octets_of 2 n) (word * 2) h) l

pub read_back : ReadsBack
unfolding packet_of
read_back f a x word out t ok =
    let m : Writable f x word out = writable f x word out ok in
    let from : 53 ≤ word = m.from in
    let to : word ≤ 539 = m.to in
    let u : List ℕ = unsummed f a x in
    let s : ℕ = packet_sum u word in
    let v : List ℕ = octets_of 2 s in
    let y : List ℕ = put x (word * 2 - 106) v in
    let bs : List ℕ = put u (word * 2) v in
    let n : length u ≡ 1080 = unsummed_length f a t x m.carries in
    let ly : length y ≡ 974 = put_length x (word * 2 - 106) v ∙ m.carries in
    let is : bs ≡ unsummed f a y = put_carried f a t x v (word * 2) (omega arith) in
    let size : length bs ≡ 1080 = put_length u (word * 2) v ∙ n in
    let cuts : cut bs columns.packet_columns ≡ parts_of f a y =
    ap (λ (z : List ℕ). cut z columns.packet_columns) is ∙ columns_are f a t y ly in
    let sum : packet_sum bs word ≡ s = sum_stored u word s (omega arith) in
    let stored : word_at bs word ≡ s = word_stored u word s (omega arith) (sum_lt u word) in
    let z : 0 ≡ read_refusal bs word =
    accepts bs word (is_accepted f a y bs t m.count m.error size cuts word from to (sum ∙ sym stored)) in (
      sym (say_answered _ (fields_of bs) f (sym z) (sym (fields_are f a y bs t m.count m.error size cuts))),
      sym (after_done _ (arrays_of bs) no_arrays a (sym z) (sym (arrays_are f a y bs t m.count m.error size cuts))),
      ap (λ (ps : List (List ℕ)). get_or ps 20 []) cuts ∙ ap (λ (k : ℕ). put x (word * 2 - 106) (octets_of 2 k)) (sym sum),
    )

-- the packet that was written is read, whole
pub read_whole : (p : Packet) (x : List ℕ) (word : ℕ) (out : List ℕ) → Typed p.fields p.arrays → write_refusal p.fields x word out ≡ 0
    → packet_due (packet_of p.fields p.arrays x word) word ≡ answered p
read_whole p x word out t ok =
    let bs = packet_of p.fields p.arrays x word in
    let b = read_back p.fields p.arrays x word out t ok in
    let q = answer_said (read_refusal bs word) (fields_of bs) p.fields (sym b.0) in
    let arrays = after_done (read_refusal bs word) (arrays_of bs) no_arrays (arrays_of bs) q.0 refl ∙ b.1 in
    sym (say_answered _ (record { fields = fields_of bs; arrays = arrays_of bs }) p q.0 (λ i. record { fields = q.1 i; arrays = sym arrays i }))
