-- Request 3: cutting bytes at any even byte gives two sums that add, modulo 65,536, to that of the whole.
use Rattle.std.specs.Prelude.{◌≡◌, ℕ, ◌+◌, ◌*◌, ◌%◌, List, take, drop}
use Rattle.checksum.specs.Sum.{word_sum}
use Rattle.checksum_laws.specs.declared.PartSums.{PartSums}

-- of any bytes, at any even byte, also one past the end
abbrev pub PartsAdd : Type 0
PartsAdd =
    (s : List ℕ) (cut : ℕ) → cut % 2 ≡ 0 → (word_sum (take cut s) % 65536 + word_sum (drop cut s) % 65536) % 65536 ≡ word_sum s % 65536

-- the sums of the bytes before a word, of those from it on, and of all
abbrev pub part_sums : List ℕ → ℕ → PartSums
part_sums s word = record {
  before = word_sum (take (word * 2) s) % 65536;
  after = word_sum (drop (word * 2) s) % 65536;
  whole = word_sum s % 65536;
}
