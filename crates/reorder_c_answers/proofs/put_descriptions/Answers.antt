-- Two numbers a description; a store is a put of one number, and all together are the 64.
use mathlib.Core.Path.{◌≡◌}
use native.Mathlib.Omega.{arith}
use borrow.Author.Rules.{rules}
use lib.ListN.{length}
use Rattle.reorder_c_answers.proofs.Listed.{stored_none, stored_more, stored_whole}
use Rattle.reorder_c_answers.proofs.put_descriptions.Goals as goal

pub loop-i-init : goal.loop-i-init
loop-i-init c = stored_none c.args.descriptions _

pub loop-i-preserved : goal.loop-i-preserved
loop-i-preserved c =
    let l = c.loop-i in
    let n : length c.args.descriptions ≡ 32 = search rules in
    rw c.put_description.ensures (stored_more c.args.descriptions _ l.numbers l.i (omega (arith, n, c.loop-i-test.true)) l.invariant)

pub returns : goal.returns
returns c =
    let l = c.loop-i in
    let n : length c.args.descriptions ≡ 32 = search rules in
    stored_whole c.args.descriptions _ l.numbers l.i (omega (arith, n, c.loop-i-test.false)) (omega (arith, n, c.told-out)) l.invariant
