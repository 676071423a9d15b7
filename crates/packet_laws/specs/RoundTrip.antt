-- Demand 2: writing an accepted science packet's fields gives its bytes back, and reading what was written gives the fields back, the sum's
-- own two bytes aside.
use Rattle.std.specs.Prelude.{ℕ, ◌-◌, ◌*◌, ◌^◌, ◌<◌, ◌≡◌, List, eqb, length}
use Rattle.octets.specs.Bytes.{octets_of, put, Octets}
use Rattle.octets.specs.Refusal.{refuse◌unless◌else◌, ◌then◌, Said, answered, say, after}
use Rattle.checksum.specs.Sum.{packet_sum}
use Rattle.packet_layout.specs.Layout as columns
use Rattle.packet_check.specs.Refusal.{read_refusal}
use Rattle.packet.specs.Fields.{fields_of, arrays_of, carried_of}
use Rattle.packet.specs.Read.{read_due, read_arrays}
use Rattle.packet.specs.declared.PacketFields.{PacketFields}
use Rattle.packet.specs.declared.PacketArrays.{PacketArrays}
use Rattle.packet.specs.declared.Packet.{Packet}
use Rattle.packet_writer.specs.Write.{packet_of, write_refusal}

-- what the types of the fields and arrays say of their values, as far as a round trip needs it: a field of one byte is its own byte, and
-- refusal 17 bounds the error status
pub record Typed (f : PacketFields) (a : PacketArrays) : Type 0 where
  pub count_fits : f.count < 2 ^ 16
  pub time_fits : f.coarse_time < 2 ^ 32
  pub flags_fit : f.ram_flag_word < 2 ^ 16
  pub word1_fits : f.status_word_1 < 2 ^ 16
  pub word2_fits : f.status_word_2 < 2 ^ 16
  pub checksum_fits : f.software_checksum < 2 ^ 16
  pub hstart_fits : f.hstart < 2 ^ 16
  pub temperatures_count : length a.temperatures ≡ (columns.temperatures).items
  pub readings_count : length a.readings ≡ (columns.readings).items
  pub bins_count : length a.bins ≡ (columns.histogram).items

-- reading what was written gives the fields and arrays back, and the carried bytes with the sum at its word
abbrev pub ReadsBack : Type 0
ReadsBack =
    (f : PacketFields) (a : PacketArrays) (x : List ℕ) (word : ℕ) (out : List ℕ) → Typed f a → write_refusal f x word out ≡ 0
    → (read_due (packet_of f a x word) word ≡ answered f)
    × (read_arrays (packet_of f a x word) word ≡ a)
    × (carried_of (packet_of f a x word) ≡ put x (word * 2 - (columns.carried).start) (octets_of 2 (packet_sum (packet_of f a x word) word)))

-- writing an accepted packet's fields, arrays and carried bytes is not refused, and gives its bytes back
abbrev pub WritesBack : Type 0
WritesBack =
    (bs : List ℕ) (word : ℕ) (out : List ℕ) → Octets bs → read_refusal bs word ≡ 0 → length out ≡ columns.packet_size
    → (write_refusal (fields_of bs) (carried_of bs) word out ≡ 0)
    × (packet_of (fields_of bs) (arrays_of bs) (carried_of bs) word ≡ bs)

-- reading and writing again: the reader's refusals, then 18 for an output that is not 1,080 bytes
unfoldable pub copy_refusal : List ℕ → ℕ → List ℕ → ℕ
copy_refusal bs word out = read_refusal bs word then refuse 18 unless eqb (length out) columns.packet_size else 0

abbrev pub copy_due : List ℕ → ℕ → List ℕ → Said (Unit {0})
copy_due bs word out = say (copy_refusal bs word out) tt

abbrev pub copy_bytes : List ℕ → ℕ → List ℕ → List ℕ
copy_bytes bs word out = after (copy_refusal bs word out) bs out

-- writing and reading again: the writer's refusals, else the packet that was given
abbrev pub echo_due : Packet → List ℕ → ℕ → List ℕ → Said Packet
echo_due p x word out = say (write_refusal p.fields x word out) p
