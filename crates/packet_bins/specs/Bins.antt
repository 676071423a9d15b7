-- Document 01, "Packet layout", Bins.
use Rattle.std.specs.Prelude.{ℕ, ◌+◌, ◌-◌, ◌*◌, ◌/◌, ◌%◌, cond, List, ◌==◌, slice_index}
use Rattle.octets.specs.Table.{table}
use Rattle.packet_layout.specs.Layout.{histogram}

-- bytes are swapped in pairs: bin j is packet byte 56 + j + 1 for even j and 56 + j - 1 for odd j
abbrev pub bin_byte : ℕ → ℕ
bin_byte j = cond (j % 2 == 0) (histogram.start + j + 1) (histogram.start + j - 1)

-- the 48 bins, in bin order
unfoldable pub bins_of : List ℕ → List ℕ
bins_of bs = table histogram.items (λ j. slice_index bs (bin_byte j))

-- the first bin's number: HSTART plus 0xFFFE, modulo 65,536, then with its lowest bit cleared
unfoldable pub first_bin : ℕ → ℕ
first_bin h = (h + 0xFFFE) % 65536 / 2 * 2

-- bin j starts at (first + j) × 1,536 metres, and that sum does not wrap
abbrev pub bin_start : ℕ → ℕ → ℕ
bin_start h j = (first_bin h + j) * 1536

unfoldable pub bin_starts : ℕ → List ℕ
bin_starts h = table histogram.items (bin_start h)
