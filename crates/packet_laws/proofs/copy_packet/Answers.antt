-- The reader refuses, or the writer is given what was read.
use Prim.Native.Nat.{ℕ}
use mathlib.Core.Path.{◌≡◌, ap, ◌∙◌}
use mathlib.Core.List.{List}
use Rattle.octets.specs.Bytes.{Octets}
use Rattle.octets.specs.Refusal.{refused, answered, say}
use Rattle.octets.proofs.Ladder.{after_refused, answer_said, refusal_said}
use Rattle.refusal.specs.Number.{number}
use Rattle.refusal.proofs.Said.{number_not_0, say_handed_on}
use Rattle.packet_check.specs.Refusal.{read_refusal}
use Rattle.packet.specs.Fields.{fields_of, arrays_of}
use Rattle.packet.specs.Read.{packet_due}
use Rattle.packet.specs.declared.Packet.{Packet}
use Rattle.packet_laws.proofs.WriteBack.{copy_refused, copy_number, copy_bytes}
use Rattle.packet_laws.proofs.copy_packet.Goals as goal

read : List ℕ → Packet
read bs = record { fields = fields_of bs; arrays = arrays_of bs }

pub returns-in_err-packet : goal.returns-in_err-packet
unfolding read
returns-in_err-packet c =
    let a = c.args in
    let bs = a.bytes.now in
    let r = c.in_err-packet.field-0.0 in
    let p : refused (number r) ≡ packet_due bs a.sum_word = c.in_err-packet.ensures in
    let e = copy_refused bs a.sum_word a.out.now (number r) (refusal_said _ (read_refusal bs a.sum_word) (read bs) p).0 (number_not_0 r) in
    (say_handed_on _ _ _ tt c.from_residual.ensures e, after_refused _ _ bs a.out.now e (number_not_0 r))

pub returns : goal.returns
unfolding read
returns c =
    let a = c.args in
    let bs = a.bytes.now in
    let p : answered c.in_ok-packet.packet ≡ packet_due bs a.sum_word = c.in_ok-packet.ensures in
    let q = answer_said (read_refusal bs a.sum_word) (read bs) _ p in
    let f = ap (λ (k : Packet). k.fields) q.1 in
    let b = ap (λ (k : Packet). k.arrays) q.1 in
    let o : Octets bs = λ i. (c.type_inv.bytes i).fits in
    let n = copy_number bs a.sum_word a.out.now o q.0 _ _ _ f b c.carried.ensures in
    let l = copy_bytes bs a.sum_word a.out.now o q.0 _ _ _ f b c.carried.ensures in
    (c.write_packet.ensures.0 ∙ ap (λ (k : ℕ). say k tt) n, c.write_packet.ensures.1 ∙ l)
