-- One law of loops that fill a list.
use Prim.Native.Nat.{ℕ, ◌+◌}
use mathlib.Core.Path.{◌≡◌, ap, ◌∙◌}
use native.Mathlib.Omega.{arith}
use lib.ListN.{get_or}
use Rattle.octets.specs.Table.{octets_at}
use Rattle.octets.proofs.Fill.{fill_more, fill_done}
use Rattle.octets.proofs.copy_padded.Goals as goal

pub loop-k-preserved : goal.loop-k-preserved
loop-k-preserved c =
    let l = c.loop-k in
    let s = c.args.source.now in
    let z : l.k ≡ 0 + l.k = omega arith in
    fill_more (λ j. get_or s (0 + j) 0) c.args.out.now l.out l.k _ (omega arith) (c.u8_at.ensures ∙ ap (λ (j : ℕ). get_or s j 0) z) l.invariant

pub returns : goal.returns
unfolding octets_at
returns c =
    let l = c.loop-k in
    fill_done (λ j. get_or c.args.source.now (0 + j) 0) c.args.out.now l.out l.k (omega arith) l.invariant
