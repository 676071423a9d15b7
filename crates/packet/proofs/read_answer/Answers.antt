-- What is said, by the ladder's number.
use mathlib.Core.Path.{◌≡◌, sym}
use Rattle.octets.proofs.Ladder.{say_answered}
use Rattle.refusal.specs.Number.{number}
use Rattle.refusal.proofs.Said.{say_handed_on}
use Rattle.packet_check.specs.Refusal.{read_refusal}
use Rattle.packet.specs.Fields.{fields_of}
use Rattle.packet.proofs.read_answer.Goals as goal

pub returns-in_err-check_packet : goal.returns-in_err-check_packet
returns-in_err-check_packet c =
    let q : number c.in_err-check_packet.field-0.0 ≡ read_refusal c.args.bytes.now c.args.sum_word = c.in_err-check_packet.ensures in
    say_handed_on _ _ _ (fields_of c.args.bytes.now) c.from_residual.ensures q

pub returns : goal.returns
returns c =
    let z : read_refusal c.args.bytes.now c.args.sum_word ≡ 0 = sym c.in_ok-check_packet.ensures in
    say_answered _ (fields_of c.args.bytes.now) _ z c.read_fields.ensures
