-- A session that isn't broken, as facts about its fields.
use Prim.Native.Nat.{ℕ, ◌≤◌}
use mathlib.Core.Path.{◌≡◌, refl, sym, ap}
use mathlib.Core.Bool.{true, false, not}
use native.Mathlib.Decide.{dec_le}
use native.Mathlib.Omega.{arith}
use borrow.Author.Tests.{ltb-false, le-ltb, le-leb, not-true, not-false}
use lib.Dec.{ltb}
use Rattle.octets.proofs.Ladder.{pass, fail, passed, within_true}
use Rattle.packet_layout.specs.SumWord.{is_sum_word}
use Rattle.reorder_rules.specs.Sizes.{is_threshold}
use Rattle.window.specs.Window.{held_at, some_held}
use Rattle.std.proofs.lemmas.Bool.{or_parts}
use Rattle.window.proofs.Held.{held_none, none_held}
use Rattle.reorder_session.specs.declared.Session.{Session}
use Rattle.reorder_session.specs.Session.{past_end, broken, single}

pub record Whole (s : Session) : Type 0 where
  pub count : s.anchor.count ≤ 16383
  pub threshold_least : 1 ≤ s.threshold
  pub threshold_most : s.threshold ≤ 31
  pub word_least : 53 ≤ s.sum_word
  pub word_most : s.sum_word ≤ 539
  pub next_most : s.window.start ≤ 1000000
  pub held_most : (p : ℕ) → held_at s.window p ≡ true → p ≤ 999999

pub whole : (s : Session) → broken s ≡ false → Whole s
unfolding broken past_end
whole s e =
    let c1 = or_parts (ltb 16383 s.anchor.count) _ e in
    let c2 = or_parts (not (is_threshold s.threshold)) _ c1.1 in
    let c3 = or_parts (not (is_sum_word s.sum_word)) _ c2.1 in
    let c4 = or_parts (ltb 1000000 s.window.start) _ c3.1 in
    let h = within_true 1 31 s.threshold (not-false (is_threshold s.threshold) c2.0) in
    let w = within_true 53 539 s.sum_word (not-false (is_sum_word s.sum_word) c3.0) in
    record {
      count = ltb-false _ _ c1.0;
      threshold_least = h.0;
      threshold_most = h.1;
      word_least = w.0;
      word_most = w.1;
      next_most = ltb-false _ _ c4.0;
      held_most = λ p k. most p k c4.1 (dec_le p 999999);
    }
  where
    most : (p : ℕ) → held_at s.window p ≡ true → some_held s.window 1000000 ≡ false → Dec (p ≤ 999999) → p ≤ 999999
    most p k n (yes l) = l
    most p k n (no l) = absurd (held_none s.window 1000000 n p k (omega arith))

pub unbroken : (s : Session) → Whole s → broken s ≡ false
unfolding broken past_end
unbroken s v =
    let f : some_held s.window 1000000 ≡ false = none_held s.window 1000000 (λ p k l. omega (arith, v.held_most p k)) in
    rw (
      le-ltb 16383 s.anchor.count v.count,
      le-leb 1 s.threshold v.threshold_least,
      le-leb s.threshold 31 v.threshold_most,
      le-leb 53 s.sum_word v.word_least,
      le-leb s.sum_word 539 v.word_most,
      le-ltb 1000000 s.window.start v.next_most,
      f,
    ) refl

-- ---- the refusal that comes first, 30

pub fit : (s : Session) → broken s ≡ false → single.unfit s ≡ 0
fit s e = sym (pass _ 30 0 0 (ap not e) refl)

pub unfit : (s : Session) → broken s ≡ true → 30 ≡ single.unfit s
unfit s e = fail _ 30 0 (ap not e)

pub whole_fit : (s : Session) → single.unfit s ≡ 0 → Whole s
whole_fit s e = whole s (not-true (broken s) (passed _ 29 0 e).0)

pub fit_whole : (s : Session) → Whole s → single.unfit s ≡ 0
fit_whole s v = fit s (unbroken s v)
