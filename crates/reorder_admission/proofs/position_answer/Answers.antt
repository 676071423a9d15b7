-- Each outcome of the tests, by `Admitting`.
use mathlib.Core.Path.{◌≡◌, sym, ap, ◌∙◌}
use mathlib.Core.Bool.{false}
use lib.IntN.{ℤ, pos, nat_abs}
use lib.Signed.{lt_z}
use native.Mathlib.Omega.{arith}
use Rattle.std.proofs.lemmas.Int.{ints}
use mir.Syntax.{w64}
use mir.Val.{SFits}
use mir.ValLaws.{to_z-of_z}
use Rattle.octets.specs.Refusal.{answered}
use Rattle.std.specs.Prelude.{Option, Some}
use Rattle.position.specs.Position.{position_said}
use Rattle.window.specs.declared.Window.{Window}
use Rattle.window.specs.Window.{held_at}
use Rattle.reorder_rules.specs.Offer.{admitted}
use Rattle.reorder_rules.proofs.Admitting.{beyond, below, taken, ahead, fits}
use borrow.Author.Rules.{rules}
use Rattle.reorder_admission.proofs.position_answer.Goals as goal
use Rattle.reorder_admission.proofs.position_answer.Goals.{Else-p-gt-LAST_POSITION, Else-p-from, After-is_held}

told : (w : Window) (l : Option ℤ) (p : ℤ) → l ≡ Some p → admitted w.start (held_at w) (answered p) ≡ admitted w.start (held_at w) (position_said l)
told w l p e = ap (λ (x : Option ℤ). admitted w.start (held_at w) (position_said x)) (sym e)

-- the tests passed, and what `is_held` answers
top : (c : Else-p-gt-LAST_POSITION) → lt_z (pos 999999) c.in-Some.p ≡ false
top c = grind (arith, ints)

low : (c : Else-p-from) → lt_z c.in-Some.p (pos c.args.window.start) ≡ false
low c = grind (arith, ints)

asked : (c : After-is_held) → c.is_held.result ≡ held_at c.args.window (nat_abs c.in-Some.p)
asked c =
    let f : SFits w64 c.in-Some.p = search rules in
    c.is_held.ensures ∙ ap (λ (x : ℤ). held_at c.args.window (nat_abs x)) (to_z-of_z w64 c.in-Some.p f)

pub returns-in_default : goal.returns-in_default
unfolding admitted
returns-in_default c = ap (λ (l : Option ℤ). admitted c.args.window.start (held_at c.args.window) (position_said l)) (sym c.in_default.is)

pub returns-then-p-gt-LAST_POSITION : goal.returns-then-p-gt-LAST_POSITION
returns-then-p-gt-LAST_POSITION c =
    let w = c.args.window in
    let p = c.in-Some.p in
    let f : SFits w64 p = search rules in
    beyond w.start (held_at w) p (grind (arith, ints)) ∙ told w _ p c.in-Some.is

pub returns-then-p-from : goal.returns-then-p-from
returns-then-p-from c =
    let w = c.args.window in
    let p = c.in-Some.p in
    let f : SFits w64 p = search rules in
    below w.start (held_at w) p (top (goal.at.returns-then-p-from c).Else-p-gt-LAST_POSITION) (grind (arith, ints)) ∙ told w _ p c.in-Some.is

pub returns-then-is_held : goal.returns-then-is_held
returns-then-is_held c =
    let w = c.args.window in
    let p = c.in-Some.p in
    taken w.start (held_at w) p (top (goal.at.returns-then-is_held c).Else-p-gt-LAST_POSITION) (low (goal.at.returns-then-is_held c).Else-p-from) (sym (asked (goal.at.returns-then-is_held c).After-is_held) ∙ c.if-is_held.true) ∙ told w _ p c.in-Some.is

pub returns-then-n-window-gt-MOST_AHEAD : goal.returns-then-n-window-gt-MOST_AHEAD
returns-then-n-window-gt-MOST_AHEAD c =
    let w = c.args.window in
    let p = c.in-Some.p in
    let f : SFits w64 p = search rules in
    ahead w.start (held_at w) p (top (goal.at.returns-then-n-window-gt-MOST_AHEAD c).Else-p-gt-LAST_POSITION) (low (goal.at.returns-then-n-window-gt-MOST_AHEAD c).Else-p-from) (sym (asked (goal.at.returns-then-n-window-gt-MOST_AHEAD c).After-is_held) ∙ c.if-is_held.false) (simp (to_z-of_z w64) at c.if-n-window-gt-MOST_AHEAD.true) ∙ told w _ p c.in-Some.is

pub returns : goal.returns
returns c =
    let w = c.args.window in
    let p = c.in-Some.p in
    let f : SFits w64 p = search rules in
    let free = sym (asked (goal.at.returns c).After-is_held) ∙ c.if-is_held.false in
    ap (λ (x : ℤ). answered (nat_abs x)) (to_z-of_z w64 p f)
    ∙ fits w.start (held_at w) p (top (goal.at.returns c).Else-p-gt-LAST_POSITION) (low (goal.at.returns c).Else-p-from) free (simp (to_z-of_z w64) at c.if-n-window-gt-MOST_AHEAD.false)
    ∙ told w _ p c.in-Some.is
