-- Answers stored in places, one after the other.
use Prim.Native.Nat.{ℕ, suc, ◌+◌, ◌≤◌, ◌<◌}
use mathlib.Core.Path.{◌≡◌, refl, sym, ap, ◌∙◌, subst}
use mathlib.Core.List.{List, [], ◌∷◌, ◌++◌, append_assoc, append-nil}
use native.Mathlib.Omega.{arith}
use lib.ListN.{length, length-append}
use Rattle.reorder_rules.specs.declared.Turn.{Turn}
use Rattle.octets.specs.Refusal.{Said, answered, say}
use Rattle.octets.proofs.Ladder.{answer_said, say_answered}
use Rattle.reorder_rules.specs.Serve as Serve-rules
use Rattle.reorder_rules.proofs.Said.{said_is, left}
use Rattle.reorder_rules.proofs.Ready.{drain_ready}
use Rattle.reorder_rules.proofs.Turns.{turns_most}
use Rattle.reorder_session.specs.declared.Session.{Session}
use Rattle.reorder_session.specs.Session.{single}
use Rattle.reorder_session.specs.Calls.{turns, turned_all, shown_all, drain_refusal, drain_of, Drains}
use Rattle.reorder_serve.specs.Report.{counted}
use Rattle.reorder_serve.specs.Places.{stored_all, stored_said, DrainsInto}

module _ {P : Type 0} (stored : P → ℕ → Turn → P) where
  -- one answer after others
  pub stored_last : (places : P) (i : ℕ) (ts : List Turn) (t : Turn)
      → stored_all stored places i (ts ++ (t ∷ [])) ≡ stored (stored_all stored places i ts) (i + length ts) t
  unfolding stored_all
  stored_last places i [] t = let e : i ≡ i + 0 = omega arith in ap (λ (k : ℕ). stored places k t) e
  stored_last places i (u ∷ ts) t =
      let e : suc i + length ts ≡ i + suc (length ts) = omega arith in
      stored_last (stored places i u) (suc i) ts t
      ∙ ap (λ (k : ℕ). stored (stored_all stored (stored places i u) (suc i) ts) k t) e

  -- places that answers fill: where storing one more makes those of the answers before it those of all, as many as there is room for fill theirs
  pub stored_fills : (most : ℕ) (filled : List Turn → P)
      → ((ts : List Turn) (t : Turn) → length ts < most → stored (filled ts) (length ts) t ≡ filled (ts ++ (t ∷ [])))
      → (us : List Turn) → length us ≤ most → stored_all stored (filled []) 0 us ≡ filled us
  unfolding stored_all
  stored_fills most filled one us h = go [] us (omega (arith, h))
    where
      go : (ts us : List Turn) → length ts + length us ≤ most → stored_all stored (filled ts) (length ts) us ≡ filled (ts ++ us)
      go ts [] h = ap filled (sym (append-nil ts))
      go ts (u ∷ us) h =
          let n : suc (length ts) ≡ length (ts ++ (u ∷ [])) = omega (arith, length-append ts (u ∷ [])) in
          (λ k. stored_all stored (one ts u (omega (arith, h)) k) (n k) us)
          ∙ go (ts ++ (u ∷ [])) us (omega (arith, h, length-append ts (u ∷ [])))
          ∙ ap filled (append_assoc ts (u ∷ []) us)

-- a drain that isn't refused answers its turns
pub drain_answers : (s : Session) (out store : List ℕ) (budget : ℕ) → drain_refusal s (length store) (length out) budget ≡ 0
    → (drain_of s out store budget).said ≡ answered (turns budget s)
unfolding Serve-rules.drain_of
drain_answers s out store budget e =
    let ts = turns budget s in
    let n = drain_refusal s (length store) (length out) budget in
    said_is (say n ts) s out (turned_all s) (shown_all s 0 store out) ∙ sym (say_answered n ts ts e refl)

-- a drain gives at most 32 answers
pub drain_few : (s : Session) (out store : List ℕ) (budget : ℕ) (ts : List Turn) → (drain_of s out store budget).said ≡ answered ts → length ts ≤ 32
unfolding Serve-rules.drain_of
drain_few s out store budget ts e =
    let n = drain_refusal s (length store) (length out) budget in
    let l = left (say n (turns budget s)) s out (turned_all s) (shown_all s 0 store out) ts e in
    let a = answer_said n (turns budget s) ts (sym l.answer) in
    let r = drain_ready single s (length store) (length out) budget a.0 in
    let m : length ts ≤ budget = subst (λ (us : List Turn). length us ≤ budget) (sym a.1) (turns_most single budget s) in
    omega (arith, r.most)

-- a drain of what is said, with its count, and the places after it
pub drains_into : {P : Type 0} (stored : P → ℕ → Turn → P) (s : Session) (out store : List ℕ) (budget : ℕ) (before : P)
    (x : Said (List Turn)) (r : Said ℕ) (t : Session) (c : List ℕ) (after : P)
    → Drains s out store budget x t c → r ≡ counted x → after ≡ stored_said stored before x → DrainsInto stored s out store budget before r t c after
drains_into stored s out store budget before x r t c after d n p =
    let q : x ≡ (drain_of s out store budget).said = d.comes.answer in
    record {
      drains = subst (λ (y : Said (List Turn)). Drains s out store budget y t c) q d;
      count = n ∙ ap counted q;
      places = p ∙ ap (stored_said stored before) q;
    }
