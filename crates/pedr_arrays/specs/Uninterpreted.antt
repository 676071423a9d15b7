-- Document 01, "PEDR record", and request 2: outside the engineering block, bytes 537-620 and 641-776 are not interpreted. They are handed out one part after
-- the other.
use Rattle.std.specs.Prelude.{ℕ, ◌+◌, List, ◌++◌, replicate}
use Rattle.layout.specs.Column.{octets_in}
use Rattle.pedr_layout.specs.Layout as columns

unfoldable pub uninterpreted_of : List ℕ → List ℕ
uninterpreted_of s = octets_in s columns.uninterpreted537 ++ octets_in s columns.uninterpreted641

-- how many there are
abbrev pub uninterpreted_count : ℕ
uninterpreted_count = (columns.uninterpreted537).items + (columns.uninterpreted641).items

-- those of a refusal: all zeros
unfoldable pub no_uninterpreted : List ℕ
no_uninterpreted = replicate uninterpreted_count 0
