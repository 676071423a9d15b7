-- One law of loops that fill a list.
use mathlib.Core.Path.{◌≡◌, refl, sym, ap, ◌∙◌}
use Prim.Native.Nat.{ℕ}
use native.Mathlib.Omega.{arith}
use lib.ListN.{length, get_or}
use Rattle.octets.specs.Table.{table}
use Rattle.octets.proofs.Fill.{fill_more, fill_done, table_self}
use Rattle.octets.proofs.copy.Goals as goal

pub loop-k-preserved : goal.loop-k-preserved
loop-k-preserved c =
    let l = c.loop-k in
    fill_more (λ j. get_or c.args.bytes.now j 0) c.args.out.now l.out l.k _ (omega arith) refl l.invariant

pub returns : goal.returns
returns c =
    let l = c.loop-k in
    let a = c.args in
    fill_done (λ j. get_or a.bytes.now j 0) a.out.now l.out l.k (omega arith) l.invariant
    ∙ ap (λ (n : ℕ). table n (λ j. get_or a.bytes.now j 0)) (sym c.requires) ∙ table_self a.bytes.now 0
