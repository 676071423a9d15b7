-- An accepted packet passes every test of refusals 1 to 10, and one that passes them is accepted.
use Prim.Native.Nat.{ℕ, ◌≤◌}
use mathlib.Core.Path.{◌≡◌, sym}
use mathlib.Core.List.{List}
use lib.ListN.{length}
use borrow.Author.Tests.{eqb-true}
use Rattle.octets.proofs.Ladder.{passed, pass_eq, pass_within, then_pass, then_zero}
use Rattle.layout.specs.Column.{value}
use Rattle.checksum.specs.Sum.{packet_sum, word_at}
use Rattle.packet_layout.specs.Layout.{packet_size, packet_length, packet_type}
use Rattle.packet_layout.specs.Header.{version, spare, flag, instrument, segmentation, fixed_instrument, fixed_segmentation, fixed_length}
use Rattle.packet_layout.proofs.SumWord.{sum_word_range}
use Rattle.packet_check.specs.Header.{header_refusal}
use Rattle.packet_check.specs.Refusal.{read_refusal}

pub record Accepted (bs : List ℕ) (word : ℕ) : Type 0 where
  pub size : length bs ≡ packet_size
  pub from : 53 ≤ word
  pub to : word ≤ 539
  pub version_is : version bs ≡ 0
  pub spare_is : spare bs ≡ 0
  pub flag_is : flag bs ≡ 0
  pub instrument_is : instrument bs ≡ fixed_instrument
  pub segmentation_is : segmentation bs ≡ fixed_segmentation
  pub length_is : value bs packet_length ≡ fixed_length
  pub type_is : value bs packet_type ≡ 0
  pub sum_is : packet_sum bs word ≡ word_at bs word

pub accepted : (bs : List ℕ) (word : ℕ) → read_refusal bs word ≡ 0 → Accepted bs word
unfolding read_refusal header_refusal
accepted bs word e =
    let c1 = passed _ 0 _ e in
    let c2 = passed _ 1 _ c1.1 in
    let h = then_zero _ _ c2.1 in
    let c3 = passed _ 2 _ h.0 in
    let c4 = passed _ 3 _ c3.1 in
    let c5 = passed _ 4 _ c4.1 in
    let c6 = passed _ 5 _ c5.1 in
    let c7 = passed _ 6 _ c6.1 in
    let c8 = passed _ 7 _ c7.1 in
    let c9 = passed _ 8 _ h.1 in
    let c10 = passed _ 9 _ c9.1 in
    let r = sum_word_range word c2.0 in
    record {
      size = eqb-true _ _ c1.0;
      from = r.0;
      to = r.1;
      version_is = eqb-true _ _ c3.0;
      spare_is = eqb-true _ _ c4.0;
      flag_is = eqb-true _ _ c5.0;
      instrument_is = eqb-true _ _ c6.0;
      segmentation_is = eqb-true _ _ c7.0;
      length_is = eqb-true _ _ c8.0;
      type_is = eqb-true _ _ c9.0;
      sum_is = eqb-true _ _ c10.0;
    }

header_passed : (bs : List ℕ) (word : ℕ) → Accepted bs word → 0 ≡ header_refusal bs
unfolding header_refusal
header_passed bs word a = search pass_eq depth 8

pub accepts : (bs : List ℕ) (word : ℕ) → Accepted bs word → 0 ≡ read_refusal bs word
unfolding read_refusal
accepts bs word a = let h = sym (header_passed bs word a) in search (pass_eq, pass_within, then_pass) depth 8
