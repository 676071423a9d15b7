-- The invariant: what is added so far and the words that are left, the first of them without its upper half, make the whole.
use Rattle.std.proofs.Common.{◌≡◌, ◌+◌, ◌%◌}
use Rattle.std.specs.Slice.Iter.{chunks_exact_rest, chunks_exact_size}
use Rattle.checksum.specs.Sum.{word_sum}
use Rattle.checksum.proofs.Sum.{low_sum, last_byte}
use Rattle.checksum.proofs.word_sum.Given as goal

abbrev pub invariant-loop-pair : goal.invariant-loop-pair
invariant-loop-pair l =
    (chunks_exact_size l.pair-iterator ≡ 2) × (l.last ≡ last_byte (chunks_exact_rest l.pair-iterator))
    × ((l.sum + low_sum (chunks_exact_rest l.pair-iterator)) % 65536 ≡ word_sum l.bytes % 65536)
