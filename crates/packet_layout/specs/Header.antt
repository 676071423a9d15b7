-- Document 01, "Packet layout": the bit fields of packet bytes 0-1 and 2-3, from the top bit: version 3 (0), spare 1 (0), secondary header
-- flag 1 (0), error status 3, instrument 8 (35); segmentation 2 (3), count 14; and the length of bytes 4-5 (1,073).
use Rattle.std.specs.Prelude.{ℕ, List}
use Rattle.octets.specs.Bytes.{bits_at}
use Rattle.layout.specs.Column.{value}
use Rattle.packet_layout.specs.Layout.{packet_id, sequence_control}

abbrev pub version : List ℕ → ℕ
version bs = bits_at (value bs packet_id) 13 3

abbrev pub spare : List ℕ → ℕ
spare bs = bits_at (value bs packet_id) 12 1

abbrev pub flag : List ℕ → ℕ
flag bs = bits_at (value bs packet_id) 11 1

abbrev pub error_status : List ℕ → ℕ
error_status bs = bits_at (value bs packet_id) 8 3

abbrev pub instrument : List ℕ → ℕ
instrument bs = bits_at (value bs packet_id) 0 8

abbrev pub segmentation : List ℕ → ℕ
segmentation bs = bits_at (value bs sequence_control) 14 2

abbrev pub count : List ℕ → ℕ
count bs = bits_at (value bs sequence_control) 0 14

-- the fixed values that are not 0
abbrev pub fixed_instrument : ℕ
fixed_instrument = 35

abbrev pub fixed_segmentation : ℕ
fixed_segmentation = 3

abbrev pub fixed_length : ℕ
fixed_length = 1073

-- the largest error status of 3 bits, and count of 14
abbrev pub most_error_status : ℕ
most_error_status = 7

abbrev pub most_count : ℕ
most_count = 16383
