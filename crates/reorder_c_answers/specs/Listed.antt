-- A drain's descriptions as numbers, for callers in languages that have no such structs.
use Rattle.std.specs.Prelude.{ℕ, ◌*◌, List, [], ◌∷◌}
use Rattle.octets.specs.Bytes.{put}
use Rattle.reorder_rules.specs.declared.Turn.{Turn}
use Rattle.reorder_turn.specs.Described.{described}
use Rattle.reorder_turn.specs.declared.Description.{Description}

-- the kind and the position of each
abbrev pub listed : List Description → List ℕ
listed [] = []
listed (d ∷ ds) = d.kind ∷ d.position ∷ listed ds

-- the numbers with the i-th answer described: its kind at 2 i, and its position behind it
abbrev pub described_in : List ℕ → ℕ → Turn → List ℕ
described_in numbers i t = put numbers (2 * i) (listed (described t ∷ []))
