-- Document 01, "Packet layout": the writer takes the free fields and 974 carried bytes. It sets the fixed fields, works out the sum, and
-- ignores what the carried bytes hold at the sum's word.
use Rattle.std.specs.Prelude.{ℕ, ◌+◌, ◌-◌, ◌*◌, ◌^◌, List, [], ◌∷◌, ◌++◌, eqb, leb, length, get_or}
use Rattle.octets.specs.Bytes.{octets_of, put}
use Rattle.octets.specs.Refusal.{refuse◌unless◌else◌, Said, say, after}
use Rattle.octets.specs.Table.{table}
use Rattle.layout.specs.Column.{join}
use Rattle.checksum.specs.Sum.{packet_sum}
use Rattle.packet_layout.specs.Layout as columns
use Rattle.packet_layout.specs.Header.{fixed_instrument, fixed_segmentation, fixed_length, most_error_status, most_count}
use Rattle.packet_layout.specs.SumWord.{is_sum_word}
use Rattle.packet_bins.specs.Bins.{bin_byte}
use Rattle.packet.specs.declared.PacketFields.{PacketFields}
use Rattle.packet.specs.declared.PacketArrays.{PacketArrays}

-- bytes 0-1, from the top bit: version 3 (0), spare 1 (0), flag 1 (0), error status 3, instrument 8 (35)
abbrev pub id_word : PacketFields → ℕ
id_word f = f.error_status * 2 ^ 8 + fixed_instrument

-- bytes 2-3, from the top bit: segmentation 2 (3), count 14
abbrev pub sequence_word : PacketFields → ℕ
sequence_word f = fixed_segmentation * 2 ^ 14 + f.count

-- the columns of bytes 0 to 11; the length is 1,073 and the type 0
abbrev pub head_parts : PacketFields → List (List ℕ)
head_parts f =
    octets_of 2 (id_word f)
    ∷ octets_of 2 (sequence_word f)
    ∷ octets_of 2 fixed_length
    ∷ octets_of 4 f.coarse_time
    ∷ (f.fine_time ∷ [])
    ∷ (0 ∷ [])
    ∷ []

-- the columns of bytes 42 to 55
abbrev pub status_parts : PacketFields → List (List ℕ)
status_parts f =
    (f.status_register ∷ [])
    ∷ (f.software_version ∷ [])
    ∷ octets_of 2 f.ram_flag_word
    ∷ octets_of 2 f.status_word_1
    ∷ octets_of 2 f.status_word_2
    ∷ octets_of 2 f.software_checksum
    ∷ (f.commands_received ∷ [])
    ∷ (f.command_errors ∷ [])
    ∷ (f.transmitter_threshold ∷ [])
    ∷ (f.tracking_status ∷ [])
    ∷ []

-- bytes 56 to 103: the bins with the bytes of each pair swapped, so that byte bin_byte j holds bin j
unfoldable pub histogram_of : List ℕ → List ℕ
histogram_of bins = table (columns.histogram).items (λ k. get_or bins (bin_byte k - (columns.histogram).start) 0)

-- the packet's columns, in the order of its table
abbrev pub parts_of : PacketFields → PacketArrays → List ℕ → List (List ℕ)
parts_of f a x =
    head_parts f
    ++ (a.temperatures ∷ a.readings ∷ (status_parts f ++ (histogram_of a.bins ∷ octets_of 2 f.hstart ∷ x ∷ [])))

-- the packet before its sum is stored, and then with the sum at its word
unfoldable pub unsummed : PacketFields → PacketArrays → List ℕ → List ℕ
unsummed f a x = join (parts_of f a x)

unfoldable pub packet_of : PacketFields → PacketArrays → List ℕ → ℕ → List ℕ
packet_of f a x word = put (unsummed f a x) (word * 2) (octets_of 2 (packet_sum (unsummed f a x) word))

-- 2: sum's place not 53 to 539. 17: count over 16,383, error status over 7 or carried bytes not 974. 18: output not 1,080 bytes
unfoldable pub write_refusal : PacketFields → List ℕ → ℕ → List ℕ → ℕ
write_refusal f x word out =
    refuse 2 unless is_sum_word word else
    refuse 17 unless leb f.count most_count else
    refuse 17 unless leb f.error_status most_error_status else
    refuse 17 unless eqb (length x) (columns.carried).items else
    refuse 18 unless eqb (length out) columns.packet_size else
    0

-- what is due of the writer, and the bytes then in the output
abbrev pub write_due : PacketFields → List ℕ → ℕ → List ℕ → Said (Unit {0})
write_due f x word out = say (write_refusal f x word out) tt

abbrev pub write_bytes : PacketFields → PacketArrays → List ℕ → ℕ → List ℕ → List ℕ
write_bytes f a x word out = after (write_refusal f x word out) (packet_of f a x word) out
