-- Document 01, "Refusal numbers": the reader gives refusals 1 to 10, else the packet's fields.
use Rattle.std.specs.Prelude.{ℕ, List}
use Rattle.octets.specs.Refusal.{Said, say, after}
use Rattle.packet_check.specs.Refusal.{read_refusal}
use Rattle.packet.specs.Fields.{fields_of, arrays_of, no_arrays}
use Rattle.packet.specs.declared.PacketFields.{PacketFields}
use Rattle.packet.specs.declared.PacketArrays.{PacketArrays}
use Rattle.packet.specs.declared.Packet.{Packet}

-- what is due of the reader: of the single fields, and of the arrays too
abbrev pub read_due : List ℕ → ℕ → Said PacketFields
read_due bs word = say (read_refusal bs word) (fields_of bs)

abbrev pub packet_due : List ℕ → ℕ → Said Packet
packet_due bs word = say (read_refusal bs word) (record { fields = fields_of bs; arrays = arrays_of bs })

-- the arrays beside the single fields, where a refusal has arrays of zeros
abbrev pub read_arrays : List ℕ → ℕ → PacketArrays
read_arrays bs word = after (read_refusal bs word) (arrays_of bs) no_arrays
