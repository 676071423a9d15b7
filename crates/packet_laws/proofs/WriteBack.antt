-- Writing what was read: column by column, then the sum.
use Prim.Native.Nat.{ℕ, ◌+◌, ◌-◌, ◌*◌, ◌/◌, ◌%◌, ◌<◌, ◌≤◌}
use mathlib.Core.Path.{◌≡◌, refl, sym, ap, ◌∙◌}
use mathlib.Core.List.{List, [], ◌∷◌}
use native.Mathlib.Nat.{div-div-eq-div-mul}
use native.Mathlib.Omega.{arith}
use lib.Dec.{eqb}
use lib.ListN.{length, get_or}
use lib.Seq.{ext_get_or}
use Rattle.octets.specs.Bytes.{octets_of, nat_at, part, put, Octets}
use Rattle.octets.specs.Refusal.{refuse◌unless◌else◌, after}
use Rattle.octets.proofs.Codec.{octets_part, part_at, part_length, part_one, write_read}
use Rattle.octets.proofs.Ladder.{pass_eq, pass_le, pass_within, then_fail, then_pass}
use Rattle.octets.proofs.Read.{nat_lt}
use Rattle.octets.proofs.Store.{put_same}
use Rattle.layout.specs.Column.{value, cut, join}
use Rattle.layout.proofs.Cover.{join_cut}
use Rattle.checksum.specs.Sum.{packet_sum}
use Rattle.packet_bins.specs.Bins.{bin_byte, bins_of}
use Rattle.packet_bins.proofs.Swap.{bins_at, bin_byte_range, bin_byte_twice}
use Rattle.packet_layout.specs.Layout as columns
use Rattle.packet_check.specs.Refusal.{read_refusal}
use Rattle.packet_check.proofs.Accept.{Accepted, accepted}
use Rattle.packet.specs.Fields.{fields_of, arrays_of, carried_of}
use Rattle.packet.specs.declared.PacketFields.{PacketFields}
use Rattle.packet.specs.declared.PacketArrays.{PacketArrays}
use Rattle.packet_writer.specs.Write.{id_word, sequence_word, histogram_of, parts_of, unsummed, packet_of, write_refusal}
use Rattle.packet_writer.proofs.Histogram.{histogram_length, histogram_at}
use Rattle.packet_laws.specs.RoundTrip.{WritesBack, copy_refusal}
use Rattle.packet_laws.proofs.Columns.{packet_tiles}

-- a number of five bits whose lowest, next and upper three are zero
top : (q : ℕ) → q % 2 ≡ 0 → q / 2 % 2 ≡ 0 → q / 2 / 2 % 8 ≡ 0 → q < 32 → q ≡ 0
top q a b c l = omega arith

-- the identification word of an accepted packet, from its error status
id_whole : (n : ℕ) → n / 8192 % 8 ≡ 0 → n / 4096 % 2 ≡ 0 → n / 2048 % 2 ≡ 0 → n % 256 ≡ 35 → n < 65536 → n / 256 % 8 * 256 + 35 ≡ n
id_whole n v s g i l =
    let q : ℕ = n / 256 / 8 in
    let e1 : n / 2048 ≡ q = sym (div-div-eq-div-mul n 256 8) in
    let e2 : n / 4096 ≡ q / 2 = sym (div-div-eq-div-mul n 2048 2) ∙ ap (λ (k : ℕ). k / 2) e1 in
    let e3 : n / 8192 ≡ q / 2 / 2 = sym (div-div-eq-div-mul n 4096 2) ∙ ap (λ (k : ℕ). k / 2) e2 in
    let zero : q ≡ 0 = top q (sym (ap (λ (k : ℕ). k % 2) e1) ∙ g) (sym (ap (λ (k : ℕ). k % 2) e2) ∙ s) (sym (ap (λ (k : ℕ). k % 8) e3) ∙ v) (omega arith) in
    omega arith

sequence_whole : (n : ℕ) → n / 16384 % 4 ≡ 3 → n < 65536 → 49152 + n % 16384 ≡ n
sequence_whole n s l = omega arith

module _ (bs : List ℕ) (word : ℕ) (o : Octets bs) (z : read_refusal bs word ≡ 0) where
  a : Accepted bs word
  a = accepted bs word z

  size : length bs ≡ 1080
  size = a.size

  -- a column of n bytes that holds the number x, and a column of one byte
  column_of : (i n x : ℕ) → i + n ≤ 1080 → x ≡ nat_at bs i n → octets_of n x ≡ part bs i n
  column_of i n x h e = ap (octets_of n) e ∙ write_read n bs i o (rw size h)

  byte_of : (i x : ℕ) → i < 1080 → x ≡ get_or bs i 0 → x ∷ [] ≡ part bs i 1
  byte_of i x h e = ap (λ (b : ℕ). b ∷ []) e ∙ sym (part_one bs i (rw size h))

  id_of : id_word (fields_of bs) ≡ value bs columns.packet_id
  unfolding fields_of
  id_of =
      id_whole (value bs columns.packet_id) a.version_is a.spare_is a.flag_is a.instrument_is (nat_lt bs 0 2 o)

  sequence_of : sequence_word (fields_of bs) ≡ value bs columns.sequence_control
  unfolding fields_of
  sequence_of = sequence_whole (value bs columns.sequence_control) a.segmentation_is (nat_lt bs 2 2 o)

  histogram_of_lem : histogram_of (bins_of bs) ≡ part bs 56 48
  histogram_of_lem =
      let l : length (part bs 56 48) ≡ 48 = part_length bs 56 48 (rw size (omega arith)) in
      ext_get_or 0 (histogram_of (bins_of bs)) (part bs 56 48) (histogram_length (bins_of bs) ∙ sym l)
      (λ k q. let h : k < 48 = rw (histogram_length (bins_of bs)) at q in
      let r = bin_byte_range k h in
      histogram_at (bins_of bs) k h
      ∙ bins_at bs (bin_byte k - 56) (omega arith)
      ∙ ap (λ (n : ℕ). get_or bs n 0) (bin_byte_twice k)
      ∙ sym (part_at bs 56 48 k h))

  parts_are : parts_of (fields_of bs) (arrays_of bs) (carried_of bs) ≡ cut bs columns.packet_columns
  unfolding fields_of arrays_of
  parts_are =
      let p0 = column_of 0 2 (id_word (fields_of bs)) (omega arith) id_of in
      let p1 = column_of 2 2 (sequence_word (fields_of bs)) (omega arith) sequence_of in
      let p2 = column_of 4 2 1073 (omega arith) (sym a.length_is) in
      let p3 = column_of 6 4 (nat_at bs 6 4) (omega arith) refl in
      let p4 = byte_of 10 (get_or bs 10 0) (omega arith) refl in
      let p5 = byte_of 11 0 (omega arith) (sym a.type_is) in
      let p6 = octets_part bs 12 16 (rw size (omega arith)) in
      let p7 = octets_part bs 28 14 (rw size (omega arith)) in
      let p8 = byte_of 42 (get_or bs 42 0) (omega arith) refl in
      let p9 = byte_of 43 (get_or bs 43 0) (omega arith) refl in
      let p10 = column_of 44 2 (nat_at bs 44 2) (omega arith) refl in
      let p11 = column_of 46 2 (nat_at bs 46 2) (omega arith) refl in
      let p12 = column_of 48 2 (nat_at bs 48 2) (omega arith) refl in
      let p13 = column_of 50 2 (nat_at bs 50 2) (omega arith) refl in
      let p14 = byte_of 52 (get_or bs 52 0) (omega arith) refl in
      let p15 = byte_of 53 (get_or bs 53 0) (omega arith) refl in
      let p16 = byte_of 54 (get_or bs 54 0) (omega arith) refl in
      let p17 = byte_of 55 (get_or bs 55 0) (omega arith) refl in
      let p19 = column_of 104 2 (nat_at bs 104 2) (omega arith) refl in
      λ i. p0 i ∷ p1 i ∷ p2 i ∷ p3 i ∷ p4 i ∷ p5 i ∷ p6 i ∷ p7 i ∷ p8 i ∷ p9 i ∷ p10 i ∷ p11 i ∷ p12 i ∷ p13 i ∷ p14 i ∷ p15 i ∷ p16 i
      ∷ p17 i ∷ histogram_of_lem i ∷ p19 i ∷ part bs 106 974 ∷ []

  unsummed_is : unsummed (fields_of bs) (arrays_of bs) (carried_of bs) ≡ bs
  unfolding unsummed
  unsummed_is = ap join parts_are ∙ join_cut bs columns.packet_columns 0 1080 packet_tiles (sym size)

  packet_is : packet_of (fields_of bs) (arrays_of bs) (carried_of bs) word ≡ bs
  unfolding packet_of
  packet_is =
      let to : word ≤ 539 = a.to in
      ap (λ (u : List ℕ). put u (word * 2) (octets_of 2 (packet_sum u word))) unsummed_is
      ∙ ap (put bs (word * 2)) (column_of (word * 2) 2 (packet_sum bs word) (omega arith) a.sum_is)
      ∙ put_same bs (word * 2) 2 (rw size (omega arith))

  -- of the writer's refusals only 18 is left
  pub write_rest : (out : List ℕ) → (refuse 18 unless eqb (length out) 1080 else 0) ≡ write_refusal (fields_of bs) (carried_of bs) word out
  unfolding write_refusal fields_of
  write_rest out =
      let from : 53 ≤ word = a.from in
      let to : word ≤ 539 = a.to in
      let count : nat_at bs 2 2 % 16384 ≤ 16383 = omega arith in
      let error : nat_at bs 0 2 / 256 % 8 ≤ 7 = omega arith in
      let l : length (carried_of bs) ≡ 974 = part_length bs 106 974 (rw size (omega arith)) in
      pass_within 53 539 word 2 _ _ from to (pass_le _ 16383 17 _ _ count (pass_le _ 7 17 _ _ error (pass_eq _ 974 17 _ _ l refl)))

pub write_back : WritesBack
write_back bs word out o z e = (sym (pass_eq (length out) 1080 18 0 0 e refl ∙ write_rest bs word o z out), packet_is bs word o z)

-- reading and writing again, by the two calls: the reader refuses
pub copy_refused : (bs : List ℕ) (word : ℕ) (out : List ℕ) (r : ℕ) → r ≡ read_refusal bs word → (r ≡ 0 → ⊥) → r ≡ copy_refusal bs word out
unfolding copy_refusal
copy_refused bs word out r e ne = then_fail (read_refusal bs word) (refuse 18 unless eqb (length out) 1080 else 0) r e ne

-- or the writer is given what was read
module _ (bs : List ℕ) (word : ℕ) (out : List ℕ) (o : Octets bs) (z : read_refusal bs word ≡ 0) (f : PacketFields) (b : PacketArrays) (x : List ℕ)
    (ef : f ≡ fields_of bs) (eb : b ≡ arrays_of bs) (ex : x ≡ carried_of bs) where
  pub copy_number : write_refusal f x word out ≡ copy_refusal bs word out
  unfolding copy_refusal
  copy_number = (λ i. write_refusal (ef i) (ex i) word out) ∙ sym (write_rest bs word o z out) ∙ then_pass (read_refusal bs word) _ _ z refl

  pub copy_bytes : after (write_refusal f x word out) (packet_of f b x word) out ≡ after (copy_refusal bs word out) bs out
  copy_bytes = λ i. after (copy_number i) (((λ j. packet_of (ef j) (eb j) (ex j) word) ∙ packet_is bs word o z) i) out
