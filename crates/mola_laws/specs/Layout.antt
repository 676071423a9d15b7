-- The structs of a packet and of the reorder buffer's answers, which other languages share with the exported functions, as C lays them out. The session's
-- layout is in `reorder_lent`.
use Rattle.std.specs.Prelude.{List, [], ◌∷◌}
use Rattle.packet.specs.declared.PacketFields.{PacketFields}
use Rattle.packet.specs.declared.PacketArrays.{PacketArrays}
use Rattle.mola.specs.declared.FieldsAnswer.{FieldsAnswer}
use Rattle.reorder_c_answers.specs.declared.Answer.{Answer}
use Rattle.reorder_c_answers.specs.declared.Count.{Count}
use Rattle.packet.specs.contracts.PacketFields as In-fields
use Rattle.packet.specs.contracts.PacketArrays as In-arrays
use Rattle.mola.specs.contracts.FieldsAnswer as In-read
use Rattle.reorder_c_answers.specs.contracts.Answer as In-answer
use Rattle.reorder_c_answers.specs.contracts.Count as In-count
use Rattle.mola_laws.specs.Laid.{Field, u8, u16, u32, ◌times◌, ◌at◌is◌, held, Laid}

abbrev pub packet_fields : List (Field PacketFields)
packet_fields =
    u8 at 0 is (λ f. f.error_status)
    ∷ u16 at 2 is (λ f. f.count)
    ∷ u32 at 4 is (λ f. f.coarse_time)
    ∷ u8 at 8 is (λ f. f.fine_time)
    ∷ u8 at 9 is (λ f. f.status_register)
    ∷ u8 at 10 is (λ f. f.software_version)
    ∷ u16 at 12 is (λ f. f.ram_flag_word)
    ∷ u16 at 14 is (λ f. f.status_word_1)
    ∷ u16 at 16 is (λ f. f.status_word_2)
    ∷ u16 at 18 is (λ f. f.software_checksum)
    ∷ u8 at 20 is (λ f. f.commands_received)
    ∷ u8 at 21 is (λ f. f.command_errors)
    ∷ u8 at 22 is (λ f. f.transmitter_threshold)
    ∷ u8 at 23 is (λ f. f.tracking_status)
    ∷ u16 at 24 is (λ f. f.hstart)
    ∷ []

abbrev pub packet_arrays : List (Field PacketArrays)
packet_arrays =
    16 times u8 at 0 is (λ a. a.temperatures)
    ∷ 14 times u8 at 16 is (λ a. a.readings)
    ∷ 48 times u8 at 30 is (λ a. a.bins)
    ∷ []

abbrev pub packet_read : List (Field FieldsAnswer)
packet_read =
    u32 at 0 is (λ r. r.refusal)
    ∷ held In-fields.the_type packet_fields at 4 is (λ r. r.fields)
    ∷ held In-arrays.the_type packet_arrays at 32 is (λ r. r.arrays)
    ∷ []

abbrev pub answer : List (Field Answer)
answer =
    u32 at 0 is (λ a. a.refusal)
    ∷ u32 at 4 is (λ a. a.kind)
    ∷ u32 at 8 is (λ a. a.position)
    ∷ []

abbrev pub count : List (Field Count)
count =
    u32 at 0 is (λ c. c.refusal)
    ∷ u32 at 4 is (λ c. c.count)
    ∷ []

pub record StructLayouts : Type 0 where
  pub fields_laid : Laid In-fields.the_type 28 4 packet_fields
  pub arrays_laid : Laid In-arrays.the_type 78 1 packet_arrays
  pub read_laid : Laid In-read.the_type 112 4 packet_read
  pub answer_laid : Laid In-answer.the_type 12 4 answer
  pub count_laid : Laid In-count.the_type 8 4 count
