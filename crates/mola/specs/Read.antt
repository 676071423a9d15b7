-- What is due of the reader of a packet, as one struct.
use Rattle.octets.specs.Refusal.{Said, refused, answered, refusal_in}
use Rattle.packet.specs.declared.PacketFields.{PacketFields}
use Rattle.packet.specs.declared.PacketArrays.{PacketArrays}
use Rattle.mola.specs.declared.FieldsAnswer.{FieldsAnswer}

abbrev pub no_fields : PacketFields
no_fields =
    record {
      error_status = 0;
      count = 0;
      coarse_time = 0;
      fine_time = 0;
      status_register = 0;
      software_version = 0;
      ram_flag_word = 0;
      status_word_1 = 0;
      status_word_2 = 0;
      software_checksum = 0;
      commands_received = 0;
      command_errors = 0;
      transmitter_threshold = 0;
      tracking_status = 0;
      hstart = 0;
    }

abbrev pub fields_in : Said PacketFields → PacketFields
fields_in (refused n) = no_fields
fields_in (answered f) = f

-- what is said of a packet, with its arrays: a refusal is its number, with fields of all zeros; an accepted packet is 0 and its fields
abbrev pub as_read : Said PacketFields → PacketArrays → FieldsAnswer
as_read said a = record { refusal = refusal_in said; fields = fields_in said; arrays = a }
