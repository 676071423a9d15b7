-- The numbers of what the reader says of a packet.
use Prim.Native.Nat.{ℕ, zero, suc}
use mathlib.Core.Path.{◌≡◌, refl, ap, ◌∙◌}
use Rattle.octets.specs.Refusal.{Said, refused, answered, say, after}
use Rattle.refusal.specs.Number.{number}
use Rattle.packet_check.specs.Refusal.{read_refusal}
use Rattle.packet.specs.Fields.{fields_of, arrays_of, no_arrays}
use Rattle.packet.specs.Read.{packet_due}
use Rattle.packet.specs.declared.Packet.{Packet}
use Rattle.packet.specs.declared.PacketFields.{PacketFields}
use Rattle.packet.specs.declared.PacketArrays.{PacketArrays}
use Rattle.pedr_c.proofs.Zeros.{all_copies}
use Rattle.mola.specs.declared.FieldsAnswer.{FieldsAnswer}
use Rattle.mola.specs.Read.{no_fields, as_read}
use Rattle.mola.proofs.mola_read_packet.Goals as goal

abbrev told : Said Packet → FieldsAnswer
told (refused n) = record { refusal = n; fields = no_fields; arrays = no_arrays }
told (answered p) = record { refusal = 0; fields = p.fields; arrays = p.arrays }

told_due : (n : ℕ) (f : PacketFields) (a : PacketArrays) → told (say n (record { fields = f; arrays = a })) ≡ as_read (say n f) (after n a no_arrays)
unfolding say after
told_due zero f a = refl
told_due (suc n) f a = refl

pub returns-in-Ok : goal.returns-in-Ok
returns-in-Ok c =
    let s = c.args.packet.now in
    let w = c.args.sum_word in
    let h : ◌≡◌ {A = Said Packet} (answered c.in-Ok.read) (packet_due s w) = c.in-Ok.ensures in
    ap told h ∙ told_due (read_refusal s w) (fields_of s) (arrays_of s)

pub returns-in-Err : goal.returns-in-Err
returns-in-Err c =
    let s = c.args.packet.now in
    let w = c.args.sum_word in
    let h : ◌≡◌ {A = Said Packet} (refused (number c.in-Err.refusal)) (packet_due s w) = c.in-Err.ensures in
    let d = c.default.ensures in
    let n = all_copies (λ (x : ℕ). x ≡ 0) 0 (λ x p. p) in
    let e : ◌≡◌ {A = FieldsAnswer} _ (told (refused (number c.in-Err.refusal))) =
    λ i. record {
      refusal = c.from.ensures i;
      fields = record { error_status = d.1.0.0 i; count = d.1.0.1.0 i; coarse_time = d.1.0.1.1.0 i; fine_time = d.1.0.1.1.1.0 i; status_register = d.1.0.1.1.1.1.0 i; software_version = d.1.0.1.1.1.1.1.0 i; ram_flag_word = d.1.0.1.1.1.1.1.1.0 i; status_word_1 = d.1.0.1.1.1.1.1.1.1.0 i; status_word_2 = d.1.0.1.1.1.1.1.1.1.1.0 i; software_checksum = d.1.0.1.1.1.1.1.1.1.1.1.0 i; commands_received = d.1.0.1.1.1.1.1.1.1.1.1.1.0 i; command_errors = d.1.0.1.1.1.1.1.1.1.1.1.1.1.0 i; transmitter_threshold = d.1.0.1.1.1.1.1.1.1.1.1.1.1.1.0 i; tracking_status = d.1.0.1.1.1.1.1.1.1.1.1.1.1.1.1.0 i; hstart = d.1.0.1.1.1.1.1.1.1.1.1.1.1.1.1.1 i };
      arrays = record { temperatures = n _ _ d.1.1.0 i; readings = n _ _ d.1.1.1.0 i; bins = n _ _ d.1.1.1.1 i };
    } in
    e ∙ ap told h ∙ told_due (read_refusal s w) (fields_of s) (arrays_of s)
