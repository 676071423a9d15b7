-- Request 2: bytes of the block that a frame's layout does not name are carried beside its fields.
use Rattle.std.specs.Prelude.{ℕ, ◌-◌, List, [], ◌∷◌, ◌++◌, replicate}
use Rattle.layout.specs.Column.{Column, value, octets_in}
use Rattle.pedr_layout.specs.Layout.{frame_index}
use Rattle.pedr_layout.specs.Block as columns

-- the bytes of columns of bytes, one column after the other
abbrev pub octets_in_all : List ℕ → List Column → List ℕ
octets_in_all s [] = []
octets_in_all s (c ∷ cs) = octets_in s c ++ octets_in_all s cs

-- the bytes that a layout carries, in the record's order, and zeros behind them
unfoldable pub carried_by : List ℕ → List columns.BlockColumn → List ℕ
carried_by s l = octets_in_all s (columns.carried_in l) ++ replicate (columns.carried_most - columns.carried_size l) 0

-- by the frame index
unfoldable pub carried_of : List ℕ → List ℕ
carried_of s = carried_by s (columns.frame_layout (value s frame_index))

-- those of a refusal: all zeros
unfoldable pub no_carried : List ℕ
no_carried = replicate columns.carried_most 0
