-- What was said of the single fields, with the arrays.
use Prim.Native.Nat.{ℕ}
use mathlib.Core.Path.{◌≡◌}
use mathlib.Core.List.{List}
use Rattle.octets.specs.Refusal.{refused, answered}
use Rattle.octets.proofs.Ladder.{answer_said, refusal_said, say_answered}
use Rattle.refusal.specs.Number.{number}
use Rattle.refusal.proofs.Said.{say_handed_on}
use Rattle.packet_check.specs.Refusal.{read_refusal}
use Rattle.packet.specs.Fields.{fields_of, arrays_of}
use Rattle.packet.specs.Read.{read_due, packet_due}
use Rattle.packet.specs.declared.PacketFields.{PacketFields}
use Rattle.packet.specs.declared.PacketArrays.{PacketArrays}
use Rattle.packet.proofs.read_packet.Goals as goal

pub returns-in_err-fields : goal.returns-in_err-fields
returns-in_err-fields c =
    let bs = c.args.bytes.now in
    let e : refused (number c.in_err-fields.field-0.0) ≡ read_due bs c.args.sum_word = c.in_err-fields.ensures in
    let r = refusal_said _ (read_refusal bs c.args.sum_word) (fields_of bs) e in
    say_handed_on _ _ _ (record { fields = fields_of bs; arrays = arrays_of bs }) c.from_residual.ensures r.0

all : (bs : List ℕ) (word : ℕ) (f : PacketFields) (a : PacketArrays) → answered f ≡ read_due bs word → a ≡ arrays_of bs → answered (record { fields = f; arrays = a }) ≡ packet_due bs word
all bs word f a e q =
    let r = answer_said (read_refusal bs word) (fields_of bs) f e in
    say_answered _ _ _ r.0 (λ i. record { fields = r.1 i; arrays = q i })

pub returns : goal.returns
returns c =
    let e : answered c.in_ok-fields.fields ≡ read_due c.args.bytes.now c.args.sum_word = c.in_ok-fields.ensures in
    all _ _ _ _ e c.read_arrays.ensures
