-- Document 01, "Packet layout", the table: packet bytes count from 0. docs/LAYOUTS.md has each column's name in source document 004.
use Rattle.std.specs.Prelude.{ℕ, List, [], ◌∷◌}
use Rattle.layout.specs.Column.{Column, column}

-- column FIRST-BYTE WIDTH ITEMS
abbrev pub packet_id : Column
packet_id = column 0 2 1

abbrev pub sequence_control : Column
sequence_control = column 2 2 1

abbrev pub packet_length : Column
packet_length = column 4 2 1

abbrev pub coarse_time : Column
coarse_time = column 6 4 1

abbrev pub fine_time : Column
fine_time = column 10 1 1

abbrev pub packet_type : Column
packet_type = column 11 1 1

abbrev pub temperatures : Column
temperatures = column 12 1 16

abbrev pub readings : Column
readings = column 28 1 14

abbrev pub status_register : Column
status_register = column 42 1 1

abbrev pub software_version : Column
software_version = column 43 1 1

abbrev pub ram_flag_word : Column
ram_flag_word = column 44 2 1

abbrev pub status_word_1 : Column
status_word_1 = column 46 2 1

abbrev pub status_word_2 : Column
status_word_2 = column 48 2 1

abbrev pub software_checksum : Column
software_checksum = column 50 2 1

abbrev pub commands_received : Column
commands_received = column 52 1 1

abbrev pub command_errors : Column
command_errors = column 53 1 1

abbrev pub transmitter_threshold : Column
transmitter_threshold = column 54 1 1

abbrev pub tracking_status : Column
tracking_status = column 55 1 1

abbrev pub histogram : Column
histogram = column 56 1 48

abbrev pub hstart : Column
hstart = column 104 2 1

abbrev pub carried : Column
carried = column 106 1 974

-- the whole packet, 1,080 bytes
abbrev pub packet_size : ℕ
packet_size = 1080

abbrev pub packet_columns : List Column
packet_columns =
    packet_id ∷ sequence_control ∷ packet_length ∷ coarse_time ∷ fine_time ∷ packet_type ∷ temperatures ∷ readings ∷ status_register ∷ software_version ∷ ram_flag_word
    ∷ status_word_1 ∷ status_word_2 ∷ software_checksum ∷ commands_received ∷ command_errors ∷ transmitter_threshold ∷ tracking_status ∷ histogram ∷ hstart ∷ carried ∷ []
