-- The structs of a packet and of the reorder buffer's answers, by what their values are lowered to.
use Rattle.std.specs.Prelude.{[], ◌∷◌}
use Rattle.packet.specs.declared.PacketFields.{PacketFields}
use Rattle.packet.specs.declared.PacketArrays.{PacketArrays}
use Rattle.mola.specs.declared.FieldsAnswer.{FieldsAnswer}
use Rattle.reorder_c_answers.specs.declared.Answer.{Answer}
use Rattle.reorder_c_answers.specs.declared.Count.{Count}
use Rattle.packet.proofs.PacketFields.TheLaws as In-fields
use Rattle.packet.proofs.PacketArrays.TheLaws as In-arrays
use Rattle.mola.proofs.FieldsAnswer.TheLaws as In-read
use Rattle.reorder_c_answers.proofs.Answer.TheLaws as In-answer
use Rattle.reorder_c_answers.proofs.Count.TheLaws as In-count
use mathlib.Core.Path.{refl}
use Rattle.mola_laws.proofs.Lowered.{Laid}
use Rattle.mola_laws.specs.Laid.{Kind, u8, u16, u32, ◌times◌, ◌at◌is◌}

abbrev pub packet_fields : Kind PacketFields
packet_fields = record { type = In-fields.mir; value = In-fields.lowered }

abbrev pub packet_arrays : Kind PacketArrays
packet_arrays = record { type = In-arrays.mir; value = In-arrays.lowered }

abbrev pub packet_read : Kind FieldsAnswer
packet_read = record { type = In-read.mir; value = In-read.lowered }

abbrev pub answer : Kind Answer
answer = record { type = In-answer.mir; value = In-answer.lowered }

abbrev pub count : Kind Count
count = record { type = In-count.mir; value = In-count.lowered }

pub record StructLayouts : Type 0 where
  pub fields_laid : Laid packet_fields 28 4 (
      u8 at 0 is (λ f. f.error_status)
      ∷ u16 at 2 is (λ f. f.count)
      ∷ u32 at 4 is (λ f. f.coarse_time)
      ∷ u8 at 8 is (λ f. f.fine_time)
      ∷ u8 at 9 is (λ f. f.status_register)
      ∷ u8 at 10 is (λ f. f.software_version)
      ∷ u16 at 12 is (λ f. f.ram_flag_word)
      ∷ u16 at 14 is (λ f. f.status_word_1)
      ∷ u16 at 16 is (λ f. f.status_word_2)
      ∷ u16 at 18 is (λ f. f.software_checksum)
      ∷ u8 at 20 is (λ f. f.commands_received)
      ∷ u8 at 21 is (λ f. f.command_errors)
      ∷ u8 at 22 is (λ f. f.transmitter_threshold)
      ∷ u8 at 23 is (λ f. f.tracking_status)
      ∷ u16 at 24 is (λ f. f.hstart)
      ∷ [])
  pub arrays_laid : Laid packet_arrays 78 1 (
      16 times u8 at 0 is (λ a. a.temperatures)
      ∷ 14 times u8 at 16 is (λ a. a.readings)
      ∷ 48 times u8 at 30 is (λ a. a.bins)
      ∷ [])
  pub read_laid : Laid packet_read 112 4 (
      u32 at 0 is (λ r. r.refusal)
      ∷ packet_fields at 4 is (λ r. r.fields)
      ∷ packet_arrays at 32 is (λ r. r.arrays)
      ∷ [])
  pub answer_laid : Laid answer 12 4 (
      u32 at 0 is (λ a. a.refusal)
      ∷ u32 at 4 is (λ a. a.kind)
      ∷ u32 at 8 is (λ a. a.position)
      ∷ [])
  pub count_laid : Laid count 8 4 (
      u32 at 0 is (λ c. c.refusal)
      ∷ u32 at 4 is (λ c. c.count)
      ∷ [])

pub struct_layouts : StructLayouts
struct_layouts = record {
  fields_laid = record { sized = refl; aligned = refl; placed = refl; valued = λ s. refl };
  arrays_laid = record { sized = refl; aligned = refl; placed = refl; valued = λ s. refl };
  read_laid = record { sized = refl; aligned = refl; placed = refl; valued = λ s. refl };
  answer_laid = record { sized = refl; aligned = refl; placed = refl; valued = λ s. refl };
  count_laid = record { sized = refl; aligned = refl; placed = refl; valued = λ s. refl };
}
