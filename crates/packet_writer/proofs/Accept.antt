-- What the writer accepts, and the packet with its sum.
use Prim.Native.Nat.{ℕ, ◌*◌, ◌≤◌}
use mathlib.Core.Path.{◌≡◌, ap, ◌∙◌}
use mathlib.Core.List.{List}
use lib.ListN.{length}
use borrow.Author.Tests.{eqb-true, leb-true}
use Rattle.octets.specs.Bytes.{octets_of, put}
use Rattle.octets.proofs.Ladder.{passed}
use Rattle.checksum.specs.Sum.{packet_sum}
use Rattle.packet_layout.proofs.SumWord.{sum_word_range}
use Rattle.packet.specs.declared.PacketFields.{PacketFields}
use Rattle.packet.specs.declared.PacketArrays.{PacketArrays}
use Rattle.packet_writer.specs.Write.{write_refusal, unsummed, packet_of}

-- the conditions that a written packet meets
pub record Writable (f : PacketFields) (x : List ℕ) (word : ℕ) (out : List ℕ) : Type 0 where
  pub from : 53 ≤ word
  pub to : word ≤ 539
  pub count : f.count ≤ 16383
  pub error : f.error_status ≤ 7
  pub carries : length x ≡ 974
  pub room : length out ≡ 1080

pub writable : (f : PacketFields) (x : List ℕ) (word : ℕ) (out : List ℕ) → write_refusal f x word out ≡ 0 → Writable f x word out
unfolding write_refusal
writable f x word out e =
    let c1 = passed _ 1 _ e in
    let c2 = passed _ 16 _ c1.1 in
    let c3 = passed _ 16 _ c2.1 in
    let c4 = passed _ 16 _ c3.1 in
    let c5 = passed _ 17 _ c4.1 in
    let r = sum_word_range word c1.0 in
    record {
      from = r.0;
      to = r.1;
      count = leb-true _ _ c2.0;
      error = leb-true _ _ c3.0;
      carries = eqb-true _ _ c4.0;
      room = eqb-true _ _ c5.0;
    }

-- the packet without its sum, then the sum at its word
pub summed : (f : PacketFields) (a : PacketArrays) (x : List ℕ) (word s : ℕ) (u v out : List ℕ) → u ≡ unsummed f a x → s ≡ packet_sum u word
    → v ≡ octets_of 2 s → out ≡ put u (word * 2) v → out ≡ packet_of f a x word
unfolding packet_of
summed f a x word s u v out eu es ev e =
    let p : s ≡ packet_sum (unsummed f a x) word = es ∙ ap (λ (z : List ℕ). packet_sum z word) eu in
    e ∙ (λ i. put (eu i) (word * 2) ((ev ∙ ap (octets_of 2) p) i))
