-- The range of a sum word, for arithmetic.
use Prim.Native.Nat.{ℕ, ◌≤◌}
use mathlib.Core.Path.{◌≡◌}
use mathlib.Core.Bool.{true}
use Rattle.octets.proofs.Ladder.{within_true}
use Rattle.packet_layout.specs.SumWord.{is_sum_word}

pub sum_word_range : (word : ℕ) → is_sum_word word ≡ true → (53 ≤ word) × (word ≤ 539)
sum_word_range word e = within_true 53 539 word e
