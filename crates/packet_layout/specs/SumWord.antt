-- Document 01, "Packet layout": the sum's place, a word number; word w is packet bytes 2w and 2w + 1.
use Rattle.std.specs.Prelude.{ℕ, Bool}
use Rattle.octets.specs.Refusal.{within}

-- the sum stands among the carried bytes, at a word from 53 to 539
abbrev pub is_sum_word : ℕ → Bool
is_sum_word word = within 53 539 word

-- the published place
abbrev pub published_sum_word : ℕ
published_sum_word = 70
