-- Two words that grow by a bit of each test from the last shot to the first.
use native.Mathlib.Omega.{arith}
use borrow.Author.Rules.{rules}
use Rattle.pedr_flags_writer.proofs.Shots.{gathered_none, gathered_more, gathered_all, sums_lt, words_lt}
use Rattle.pedr_flags_writer.proofs.shot_words.Goals as goal

pub loop-shot-init : goal.loop-shot-init
loop-shot-init c = let g = gathered_none c.args.failures.now in search (rules, g)

pub overflow_add-high-in-loop-shot : goal.overflow_add-high-in-loop-shot
overflow_add-high-in-loop-shot c =
    let b = sums_lt c.args.failures.now _ _ c.loop-shot.high c.loop-shot.low c.in-Some.shot.now c.told-failures c.in-Some.ensures.steps c.loop-shot.invariant in
    omega arith

pub loop-shot-preserved : goal.loop-shot-preserved
loop-shot-preserved c =
    rw (c.from.ensures, c.from-in-loop-shot.ensures, c.from-in-loop-shot-2.ensures, c.from-in-loop-shot-3.ensures, c.from-in-loop-shot-4.ensures)
    (gathered_more c.args.failures.now _ _ c.loop-shot.high c.loop-shot.low c.in-Some.shot.now c.told-failures c.in-Some.ensures.steps c.loop-shot.invariant)

pub returns : goal.returns
returns c =
    let e = gathered_all c.args.failures.now _ c.loop-shot.high c.loop-shot.low c.in-None.ensures.steps.0 c.loop-shot.invariant in
    let b = words_lt c.args.failures.now (omega (arith, c.told-failures)) in
    (e.0, e.1, omega (arith, b.0, e.0), omega (arith, b.1, e.1))

pub overflow_add-low-in-loop-shot : goal.overflow_add-low-in-loop-shot
overflow_add-low-in-loop-shot c =
    let b = sums_lt c.args.failures.now _ _ c.loop-shot.high c.loop-shot.low c.in-Some.shot.now c.told-failures c.in-Some.ensures.steps c.loop-shot.invariant in
    omega arith

pub overflow_add-low-in-loop-shot-2 : goal.overflow_add-low-in-loop-shot-2
overflow_add-low-in-loop-shot-2 c =
    let b = sums_lt c.args.failures.now _ _ c.loop-shot.high c.loop-shot.low c.in-Some.shot.now c.told-failures c.in-Some.ensures.steps c.loop-shot.invariant in
    omega arith
