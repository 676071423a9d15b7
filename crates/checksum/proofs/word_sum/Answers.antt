-- The invariant: what is added so far and the words that are left, the first of them without its upper half, make the whole.
use Rattle.std.proofs.Common.{ℕ, ◌+◌, ◌%◌, List, get_or, sym, ap, ◌∙◌, arith}
use Rattle.std.specs.Slice.Iter.{chunks_exact_rest}
use Rattle.checksum.proofs.Sum.{low_sum, last_byte, sum_none, sum_first, pair_first, no_pair, add_more}
use Rattle.checksum.proofs.word_sum.Goals as goal

pub returns-in_default : goal.returns-in_default
returns-in_default c = sum_none c.args.bytes.now c.in_default.ensures.cases

pub loop-pair-init : goal.loop-pair-init
loop-pair-init c =
    let p = c.chunks_exact-pairs.ensures in
    rw c.into_iter-pair-iterator.ensures.into_iter_gives (
      p.size,
      c.u8_at-last.ensures ∙ ap (λ (l : List ℕ). get_or l 0 0) (c.remainder.ensures ∙ p.remainder) ∙ ap last_byte (sym p.rest),
      rw p.rest (sum_first c.args.bytes.now c.in-Some.rest.now c.in-Some.first.now _ c.in-Some.ensures.cases.0 c.from-sum.ensures),
    )

pub loop-pair-preserved : goal.loop-pair-preserved
loop-pair-preserved c =
    let v = c.loop-pair.invariant in
    let n = c.in-Some-pair.ensures.steps in
    let s = chunks_exact_rest c.loop-pair.pair-iterator in
    let r = chunks_exact_rest c.next.new.self in
    let e = pair_first s c.in-Some-pair.pair.now r n.1.0 (n.1.1 ∙ v.0) in (
      n.0 ∙ v.0,
      v.1 ∙ e.1,
      add_more _ _ c.loop-pair.sum c.halves-added.result _ _ (e.0 ∙ ap (λ (k : ℕ). k + low_sum r) (sym c.halves-added.ensures)) (omega arith) v.2,
    )

pub returns : goal.returns
returns c =
    let l = c.loop-pair in
    let v = l.invariant in
    ap (λ (n : ℕ). (l.sum + n) % 65536) (c.from.ensures ∙ v.1 ∙ sym (no_pair (chunks_exact_rest l.pair-iterator) (omega (arith, c.in-None.ensures.steps.1.0, v.0)))) ∙ v.2
