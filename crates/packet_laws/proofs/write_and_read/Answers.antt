-- The writer refuses, or the reader is given what was written.
use Prim.Native.Nat.{ℕ}
use mathlib.Core.Path.{◌≡◌, refl, sym, ap, ◌∙◌}
use mathlib.Core.List.{List}
use borrow.Author.Rules.{rules}
use Rattle.octets.specs.Refusal.{refused, answered}
use Rattle.octets.proofs.Ladder.{say_answered, after_done, answer_said, refusal_said}
use Rattle.refusal.specs.Number.{number}
use Rattle.refusal.proofs.Said.{say_handed_on}
use Rattle.packet.specs.Read.{packet_due}
use Rattle.packet_writer.specs.Write.{write_refusal, write_due, packet_of}
use Rattle.packet_laws.specs.RoundTrip.{Typed}
use Rattle.packet_laws.proofs.ReadBack.{read_whole}
use Rattle.packet_laws.proofs.write_and_read.Goals as goal

-- the bounds of the types
typed : (c : goal.After-read_packet) → Typed c.args.packet.fields c.args.packet.arrays
typed c = record {
  count_fits = search rules;
  time_fits = search rules;
  flags_fit = search rules;
  word1_fits = search rules;
  word2_fits = search rules;
  checksum_fits = search rules;
  hstart_fits = search rules;
  temperatures_count = search rules;
  readings_count = search rules;
  bins_count = search rules;
}

pub returns-in_err-write_packet : goal.returns-in_err-write_packet
returns-in_err-write_packet c =
    let a = c.args in
    let p : refused (number c.in_err-write_packet.field-0.0) ≡ write_due a.packet.fields a.carried.now a.sum_word a.out.now = c.in_err-write_packet.ensures.0 in
    let q = refusal_said _ (write_refusal a.packet.fields a.carried.now a.sum_word a.out.now) tt p in
    (say_handed_on _ _ _ a.packet c.from_residual.ensures q.0, c.write_packet.ensures.1)

pub returns : goal.returns
returns c =
    let a = c.args in
    let d : answered c.in_ok-write_packet.field-0 ≡ write_due a.packet.fields a.carried.now a.sum_word a.out.now = c.in_ok-write_packet.ensures.0 in
    let z = (answer_said (write_refusal a.packet.fields a.carried.now a.sum_word a.out.now) tt _ d).0 in
    let p = packet_of a.packet.fields a.packet.arrays a.carried.now a.sum_word in
    let e = c.write_packet.ensures.1 ∙ sym (after_done _ p a.out.now p z refl) in
    let b = read_whole a.packet a.carried.now a.sum_word a.out.now (typed c) z in
    (c.read_packet.ensures ∙ ap (λ (l : List ℕ). packet_due l a.sum_word) e ∙ b ∙ say_answered _ a.packet a.packet z refl, c.write_packet.ensures.1)
