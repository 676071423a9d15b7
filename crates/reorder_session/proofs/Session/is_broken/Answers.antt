-- The tests of the fields; past them the window decides.
use Prim.Native.Nat.{ℕ, ◌≤◌}
use mathlib.Core.Path.{◌≡◌, refl, sym, ap, ◌∙◌}
use mathlib.Core.Bool.{Bool, true, false, not, ◌&&◌, ◌||◌}
use native.Mathlib.Decide.{dec_le}
use native.Mathlib.Omega.{arith}
use borrow.Author.Tests.{lt-ltb, le-ltb, le-leb, lt-leb}
use lib.Dec.{ltb, leb}
use Rattle.reorder_session.specs.declared.Session.{Session}
use Rattle.reorder_session.specs.Session.{past_end, broken}
use Rattle.reorder_session.proofs.Session.is_broken.Goals as goal

-- above is not at most
above : (x y : ℕ) → ltb x y ≡ not (leb y x)
above x y = go (dec_le y x)
  where
    go : Dec (y ≤ x) → ltb x y ≡ not (leb y x)
    go (yes l) = le-ltb x y l ∙ sym (ap not (le-leb y x l))
    go (no n) = lt-ltb x y (omega arith) ∙ sym (ap not (lt-leb y x (omega arith)))

-- the tests joined as the code joins them
joined : (a b c d e p : Bool) → (not a || (not (b && c) || (not (d && e) || p))) ≡ (not ((((a && b) && c) && d) && e) || p)
joined false b c d e p = refl
joined true false c d e p = refl
joined true true false d e p = refl
joined true true true false e p = refl
joined true true true true e p = refl

by_fields : (s : Session) → let in_range = (((leb s.anchor.count 16383 && leb 1 s.threshold) && leb s.threshold 31) && leb 53 s.sum_word) && leb s.sum_word 539 in
    broken s ≡ (not in_range || past_end s.window)
unfolding broken
by_fields s = rw (above 16383 s.anchor.count) (joined (leb s.anchor.count 16383) (leb 1 s.threshold) (leb s.threshold 31) (leb 53 s.sum_word) (leb s.sum_word 539) (past_end s.window))

pub returns-then-not-in_range : goal.returns-then-not-in_range
returns-then-not-in_range c =
    let s = c.args.self in
    ap not c.if-not-in_range.true ∙ sym (by_fields s ∙ ap (λ (b : Bool). not b || past_end s.window) c.if-not-in_range.true)

pub returns-else-not-in_range : goal.returns-else-not-in_range
returns-else-not-in_range c =
    let s = c.args.self in
    c.is_past_end.ensures ∙ sym (by_fields s ∙ ap (λ (b : Bool). not b || past_end s.window) c.if-not-in_range.false)
