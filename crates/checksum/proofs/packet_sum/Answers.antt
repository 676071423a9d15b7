-- All words less the one at the place; a place past the end takes nothing.
use Rattle.std.proofs.Common.{◌∙◌, arith}
use Rattle.checksum.proofs.Sum.{place_taken, place_past}
use Rattle.checksum.proofs.packet_sum.Goals as goal

pub returns-then-bytes-sum_word : goal.returns-then-bytes-sum_word
returns-then-bytes-sum_word c = let a = c.args in c.word_sum-all.ensures ∙ place_past a.bytes.now a.sum_word c.if-bytes-sum_word.true

pub returns : goal.returns
returns c =
    let a = c.args in
    place_taken a.bytes.now a.sum_word _ _ _ c.word_sum-all.ensures c.u16_at.ensures (omega arith) (omega arith)
