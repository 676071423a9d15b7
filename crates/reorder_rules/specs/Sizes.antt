-- Document 01, "What is built" and "The rack": the numbers.
use Rattle.std.specs.Prelude.{ℕ, ◌+◌, ◌*◌, Bool}
use Rattle.octets.specs.Refusal.{within}
use Rattle.packet_layout.specs.Layout.{packet_size}

-- "A rack of 32 places"
abbrev pub positions : ℕ
positions = 32

-- "Held bytes live in a lent store of 34,560 bytes"
abbrev pub store_size : ℕ
store_size = positions * packet_size

-- "a patience H (1 to 31)"
abbrev pub is_threshold : ℕ → Bool
is_threshold h = within 1 31 h

-- "Positions 0 to 999,999 are served"; next 1,000,000 is the end
abbrev pub last_position : ℕ
last_position = 999999

abbrev pub end_position : ℕ
end_position = last_position + 1
