-- Document 01, "Packet layout": the free fields of a packet, by the columns of its table.
use Rattle.std.specs.Prelude.{ℕ, List, replicate}
use Rattle.octets.specs.Bytes.{part}
use Rattle.layout.specs.Column.{value, octets_in}
use Rattle.packet_bins.specs.Bins.{bins_of}
use Rattle.packet_layout.specs.Layout as columns
use Rattle.packet_layout.specs.Header.{error_status, count}
use Rattle.packet.specs.declared.PacketFields.{PacketFields}
use Rattle.packet.specs.declared.PacketArrays.{PacketArrays}

-- the fields that are single numbers
unfoldable pub fields_of : List ℕ → PacketFields
fields_of bs = record {
  error_status = error_status bs;
  count = count bs;
  coarse_time = value bs columns.coarse_time;
  fine_time = value bs columns.fine_time;
  status_register = value bs columns.status_register;
  software_version = value bs columns.software_version;
  ram_flag_word = value bs columns.ram_flag_word;
  status_word_1 = value bs columns.status_word_1;
  status_word_2 = value bs columns.status_word_2;
  software_checksum = value bs columns.software_checksum;
  commands_received = value bs columns.commands_received;
  command_errors = value bs columns.command_errors;
  transmitter_threshold = value bs columns.transmitter_threshold;
  tracking_status = value bs columns.tracking_status;
  hstart = value bs columns.hstart;
}

-- the fields that are arrays
unfoldable pub arrays_of : List ℕ → PacketArrays
arrays_of bs = record {
  temperatures = octets_in bs columns.temperatures;
  readings = octets_in bs columns.readings;
  bins = bins_of bs;
}

-- the arrays of a refusal
abbrev pub no_arrays : PacketArrays
no_arrays = record {
  temperatures = replicate (columns.temperatures).items 0;
  readings = replicate (columns.readings).items 0;
  bins = replicate (columns.histogram).items 0;
}

-- the carried bytes, the packet sum among them; as many of the 974 as there are
abbrev pub carried_of : List ℕ → List ℕ
carried_of bs = part bs (columns.carried).start (columns.carried).items
