-- Each part has its sum; by the law of a cut the two add to the whole's.
use Rattle.std.proofs.Common.{◌≡◌, ℕ, ◌+◌, ◌*◌, ◌%◌, List, take, drop, ap, ap₂, ◌∙◌, arith}
use Rattle.checksum.specs.Sum.{word_sum}
use Rattle.checksum_laws.specs.declared.PartSums.{PartSums}
use Rattle.checksum_laws.specs.Parts.{part_sums}
use Rattle.checksum_laws.proofs.Parts.{parts_add, cut_end}
use Rattle.checksum_laws.proofs.sum_in_parts.Goals as goal

-- of sums, by those of the two parts
sums : (s : List ℕ) (word : ℕ) (p : PartSums) → p.before ≡ word_sum (take (word * 2) s) % 65536
    → p.after ≡ word_sum (drop (word * 2) s) % 65536 → p.whole ≡ (p.before + p.after) % 65536 → p ≡ part_sums s word
sums s word p before after added =
    let whole = added ∙ ap₂ (λ (m n : ℕ). (m + n) % 65536) before after ∙ parts_add s (word * 2) (omega arith) in
    λ i. record { before = before i; after = after i; whole = whole i }

pub returns : goal.returns
returns c =
    let a = c.args in
    let s = a.bytes.now in
    let e = cut_end s a.word c.min.result c.min-cut.result c.min.ensures c.min-cut.ensures in
    let summed : (p q : List ℕ) → p ≡ q → word_sum p % 65536 ≡ word_sum q % 65536 = λ p q. ap (λ (t : List ℕ). word_sum t % 65536) in
    let before = c.word_sum-before.ensures ∙ summed _ _ (c.split_at.ensures.front ∙ e.0) in
    let after = c.word_sum-after.ensures ∙ summed _ _ (c.split_at.ensures.back ∙ e.1) in
    sums s a.word _ before after (omega arith)
