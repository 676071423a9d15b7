-- Document 01, "The rack": a session marks what it holds by p mod 32; a mark means the one such p from next to next + 31. Where the window starts
-- stands for next here: with one consumer it is the consumer's next.
use Rattle.std.specs.Prelude.{◌≡◌, ℕ, zero, suc, ◌+◌, ◌%◌, ◌<◌, Bool, false, ◌&&◌, ◌||◌, ◌==◌, nat_le}
use Rattle.numbers.specs.Bit.{bit, set_bit, clear_bit}
use Rattle.window.specs.declared.Window.{Window}

-- position p is held
unfoldable pub held_at : Window → ℕ → Bool
held_at w p = nat_le w.start p && (nat_le p (w.start + 31) && bit w.marks (p % 32) == 1)

-- a position from lo on is held, among the n positions from the start on
unfoldable pub some_among : ℕ → Window → ℕ → Bool
some_among zero w lo = false
some_among (suc n) w lo = (nat_le lo (w.start + n) && held_at w (w.start + n)) || some_among n w lo

-- some held position is at least lo
unfoldable pub some_held : Window → ℕ → Bool
some_held w lo = some_among 32 w lo

-- position p is held from now on
abbrev pub holding : Window → ℕ → Window
holding w p = record { start = w.start; marks = set_bit w.marks (p % 32) }

-- the first position is freed, and the window starts after it
abbrev pub freed : Window → Window
freed w = record { start = w.start + 1; marks = clear_bit w.marks (w.start % 32) }

-- the window starts after its first position, which isn't held
abbrev pub skipped : Window → Window
skipped w = record { start = w.start + 1; marks = w.marks }

-- r is the word of marks rotated, so that its bit j is that of position start + j
abbrev pub Rotated : Window → ℕ → Type 0
Rotated w r = (j : ℕ) → j < 32 → bit r j ≡ bit w.marks ((w.start + j) % 32)

-- the window of an opening: position 0 alone is held; and one of all zeros
abbrev pub first_window : Window
first_window = record { start = 0; marks = 1 }

abbrev pub no_window : Window
no_window = record { start = 0; marks = 0 }

-- as 32 bits have it: no window of a session that isn't broken starts past 1,000,000
abbrev pub in32_bits : Window → Window
in32_bits w = record { start = w.start % 4294967296; marks = w.marks }
