-- Text in lent bytes.
use Rattle.std.specs.Prelude.{ℕ, ◌+◌, ◌≡◌, List, length}
use Rattle.octets.specs.Bytes.{put}

-- t is s with the text stored from index i on, and the text ends at index e
abbrev pub TextAt : List ℕ → ℕ → List ℕ → ℕ → List ℕ → Type 0
TextAt s i text e t = (e ≡ i + length text) × (t ≡ put s i text)
