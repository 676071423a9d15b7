-- Freed room is used again: where next has moved on from p, position p + 32 has come into the window, and isn't held.
use Prim.Native.Nat.{ℕ, ◌+◌, ◌*◌, ◌%◌}
use mathlib.Core.Path.{◌≡◌, refl, sym, ap, ◌∙◌, subst}
use mathlib.Core.Bool.{false}
use mathlib.Core.List.{List, []}
use mathlib.Core.Logic.{◌⊎◌, inl, inr}
use native.Mathlib.Omega.{arith}
use lib.ListN.{length}
use Rattle.reorder_rules.specs.Serve as Serve-rules
use Rattle.reorder_rules.specs.Pass as Pass-rules
use Rattle.reorder_rules.specs.Offer as Offer-rules
use Rattle.octets.specs.Refusal.{answered, say}
use Rattle.octets.proofs.Ladder.{answer_said}
use Rattle.window.specs.Window.{held_at, skipped}
use Rattle.window.proofs.Held.{held_above, freed_held, skipped_held}
use Rattle.reorder_session.specs.declared.Session.{Session}
use Rattle.reorder_session.specs.Session.{with_window, single}
use Rattle.reorder_session.specs.Calls.{offer_due, turn, turned, shown, serve_refusal, serve_of, pass_refusal, pass_of}
use Rattle.reorder_rules.proofs.Said.{said_is, left}
use Rattle.reorder_rules.specs.declared.Turn.{Turn}
use Rattle.reorder_rules.specs.declared.Turn.TheVariants.{Packet, Missing, Waiting}
use Rattle.reorder_turn.proofs.Turns.{Shows, shows_packet, shows_missing, shows_waiting, shows}
use Rattle.reorder_rules.proofs.Free.{offered_near}
use Rattle.reorder_rules.proofs.Ready.{serve_ready, pass_ready}
use Rattle.reorder_session.proofs.Whole.{Whole, whole_fit, fit_whole}
use Rattle.reorder_laws.specs.Room.{TakesAgain, RoomIsUsedAgain}
use Rattle.reorder_laws.proofs.Kept.{whole_turned, whole_skipped}

-- next has moved on from p, to a session that isn't broken, and the last position of the window is free
takes_again : (t : Session) (store : List ℕ) (p : ℕ) → Whole t → length store ≡ 34560 → t.window.start ≡ p + 1 → held_at t.window (p + 32) ≡ false
    → TakesAgain t store p
unfolding Offer-rules.offer_of
takes_again t store p v size e free =
    record {
      taken = λ b read at top.
          said_is (offer_due t (length store) b) t store _ _
          ∙ offered_near single t (length store) b (p + 32) (fit_whole t v) size read at (omega arith) top free (omega arith);
      same_bytes = (let q : (p + 32) % 32 ≡ p % 32 = omega arith in ap (λ (k : ℕ). 1080 * k) q);
    }

-- ---- after a serve

-- t gives p, or calls it missing
abbrev Gone : Turn → ℕ → Type 0
Gone t p = (t ≡ Packet p) ⊎ (t ≡ Missing p)

of_packet : (n p : ℕ) → Gone (Packet n) p → n ≡ p
of_packet n p (inl e) = cc
of_packet n p (inr e) = absurd cc

of_missing : (n p : ℕ) → Gone (Missing n) p → n ≡ p
of_missing n p (inl e) = absurd cc
of_missing n p (inr e) = cc

not_waiting : (p : ℕ) → Gone Waiting p → ⊥
not_waiting p (inl e) = cc
not_waiting p (inr e) = cc

moved_on : (s : Session) (p : ℕ) (t : Turn) → Shows s t → Gone t p → ((turned s t).window.start ≡ p + 1) × (held_at (turned s t).window (p + 32) ≡ false)
moved_on s p (Packet q) (shows_packet e) g =
    let i : s.window.start ≡ p = of_packet _ p g in
    (ap (λ (k : ℕ). k + 1) i, freed_held s.window (p + 32) (omega arith) ∙ held_above s.window (p + 32) (omega arith))
moved_on s p (Missing q) (shows_missing e r f l) g =
    let i : s.window.start ≡ p = of_missing _ p g in
    (ap (λ (k : ℕ). k + 1) i, skipped_held s.window (p + 32) e (omega arith) ∙ held_above s.window (p + 32) (omega arith))
moved_on s p Waiting (shows_waiting e n) g = absurd (not_waiting p g)

after_serve : (s : Session) (out store : List ℕ) (p : ℕ) (t : Turn) → (serve_of s out store).said ≡ answered t → Gone t p → TakesAgain (serve_of s out store).session store p
unfolding Serve-rules.serve_of
after_serve s out store p t e g =
    let n = serve_refusal s (length store) (length out) in
    let l = left (say n (turn s)) s out (turned s) (shown s 0 store out) t e in
    let a = answer_said n (turn s) t (sym l.answer) in
    let r = serve_ready single s (length store) (length out) a.0 in
    let m = moved_on s p (turn s) (shows s) (subst (λ (u : Turn). Gone u p) a.1 g) in
    subst (λ (u : Session). TakesAgain u store p) (sym (l.session ∙ ap (turned s) a.1))
    (takes_again (turned s (turn s)) store p (whole_turned s (whole_fit s r.fit)) r.store m.0 m.1)

-- ---- after a pass

after_pass : (s : Session) (store : List ℕ) (p : ℕ) → (pass_of s).said ≡ answered p → length store ≡ 34560 → TakesAgain (pass_of s).session store p
unfolding Pass-rules.pass_of
after_pass s store p e size =
    let l = left (say (pass_refusal s) s.window.start) s [] _ _ p e in
    let a = answer_said (pass_refusal s) s.window.start p (sym l.answer) in
    let r = pass_ready single s a.0 in
    let v = whole_fit s r.fit in
    let i : p ≡ s.window.start = a.1 in
    subst (λ (u : Session). TakesAgain u store p) (sym l.session)
    (takes_again (with_window s (skipped s.window)) store p
    (whole_skipped s v r.free (omega (arith, v.next_most, r.before_end)))
    size
    (omega arith)
    (skipped_held s.window (p + 32) r.free (omega arith) ∙ held_above s.window (p + 32) (omega arith)))

pub room_is_used_again : RoomIsUsedAgain
room_is_used_again =
    record {
      after_packet = λ s out store p e. after_serve s out store p (Packet p) e (inl refl);
      after_missing = λ s out store p e. after_serve s out store p (Missing p) e (inr refl);
      after_pass = after_pass;
    }
