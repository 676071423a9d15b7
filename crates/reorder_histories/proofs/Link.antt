-- The relation between a reorder buffer a and one with a threshold no lower, b, that every turn and every offer keeps.
use Prim.Native.Nat.{ℕ, ◌+◌, ◌≤◌, ◌<◌}
use mathlib.Core.Path.{◌≡◌, sym, ap, ◌∙◌, subst}
use mathlib.Core.Bool.{true, false, true≢false}
use mathlib.Core.List.Memᴰ
use mathlib.Core.List.{List, ◌∷◌, [], Memᴰ}
use mathlib.Core.Logic.{◌⊎◌, inl, inr, ⊎_elim}
use native.Mathlib.Decide.{dec_lt, ℕ_discrete}
use native.Mathlib.Omega.{arith}
use Rattle.window.specs.Window.{held_at}
use Rattle.window.proofs.Held.{held_least}
use Rattle.reorder_session.specs.declared.Session.{Session}
use Rattle.reorder_session.specs.Session.{slot}
use Rattle.reorder_rules.specs.declared.Turn.{Turn}
use Rattle.reorder_rules.specs.declared.Turn.TheVariants.{Packet, Missing, Waiting}
use Rattle.reorder_session.specs.Calls.{turn, turned}
use Rattle.reorder_turn.proofs.Turns.{Shows, shows_packet, shows_missing, shows_waiting, shows}
use Rattle.reorder_laws.proofs.Kept.{keeps_turned}
use Rattle.reorder_histories.specs.History.{took, gave, called_missing, Served, CalledMissing}
use Rattle.reorder_histories.specs.Histories.{State, StillHeld, NothingLost}
use Rattle.reorder_histories.proofs.Between.{turn_told, after_turn, one_turn, told_by, turned_once}
use Rattle.reorder_histories.proofs.Buffer.{told_gave, told_missing, Buffer, Has, turned_held, turned_next, buffer_turned, has_turned, takes, Takes, took_other, took_same, took_bytes, slot_stays, took_gave, took_missing, has_taken, buffer_taken}

-- opened alike but for the threshold
pub record Alike (s t : Session) : Type 0 where
  pub anchors : s.anchor ≡ t.anchor
  pub words : s.sum_word ≡ t.sum_word
  pub thresholds : s.threshold ≤ t.threshold

-- f is the frontier: up to it a has served or called missing what it will, or holds it and serves it next; from f on both hold the same
pub record Link (f : ℕ) (a b : State) : Type 0 where
  pub buffer_a : Buffer a
  pub buffer_b : Buffer b
  pub alike : Alike a.session b.session
  pub next_a : a.session.window.start ≤ f
  pub next_b : b.session.window.start ≤ f
  pub above : (p : ℕ) → f ≤ p → held_at a.session.window p ≡ held_at b.session.window p
  pub bytes : (p : ℕ) → f ≤ p → held_at a.session.window p ≡ true → slot a.store p ≡ slot b.store p
  pub due : (p : ℕ) → a.session.window.start ≤ p → p < f → (held_at a.session.window p ≡ true) × Has b p (slot a.store p)
  pub served : (p : ℕ) (c : List ℕ) → Served a p c → Has b p c
  pub missing_too : (p : ℕ) → CalledMissing b p → CalledMissing a p

-- a buffer whose next were f would wait
pub record Quiet (f : ℕ) (a : State) : Type 0 where
  pub free : held_at a.session.window f ≡ false
  pub near : (q : ℕ) → held_at a.session.window q ≡ true → f + a.session.threshold ≤ q → ⊥

-- and no turn of it goes past f
stays_below : (f : ℕ) (σ : State) → σ.session.window.start ≤ f → Quiet f σ → (one_turn σ.session).window.start ≤ f
stays_below f σ l quiet = go (turn σ.session) (shows σ.session) (dec_lt σ.session.window.start f)
  where
    go : (t : Turn) → Shows σ.session t → Dec (σ.session.window.start < f) → (turned σ.session t).window.start ≤ f
    go (Packet n) (shows_packet h) (yes k) = omega arith
    go (Packet n) (shows_packet h) (no m) =
        let e : σ.session.window.start ≡ f = omega arith in
        absurd (true≢false (sym h ∙ ap (held_at σ.session.window) e ∙ quiet.free))
    go (Missing n) (shows_missing h q k g) (yes i) = omega arith
    go (Missing n) (shows_missing h q k g) (no m) = absurd (quiet.near q k (omega arith))
    go Waiting (shows_waiting h n) d = l

-- at the end
pub nothing_lost : (f : ℕ) (a b : State) → Link f a b → NothingLost a b
nothing_lost f a b lk = record { served = λ p c m. go p c (lk.served p c m); missing_too = lk.missing_too }
  where
    go : (p : ℕ) (c : List ℕ) → Has b p c → Served b p c ⊎ StillHeld b p c
    go p c (inl m) = inl m
    go p c (inr h) = inr (subst (StillHeld b p) h.bytes (lk.buffer_b.held p h.held))

-- a session after a turn, against another
alike_a : (s t : Session) → Alike s t → Alike (one_turn s) t
alike_a s t k =
    let e = keeps_turned s in
    record {
      anchors = e.same_anchor ∙ k.anchors;
      words = e.same_word ∙ k.words;
      thresholds = omega (arith, e.same_threshold, k.thresholds);
    }

alike_b : (s t : Session) → Alike s t → Alike s (one_turn t)
alike_b s t k =
    let e = keeps_turned t in
    record {
      anchors = k.anchors ∙ sym e.same_anchor;
      words = k.words ∙ sym e.same_word;
      thresholds = omega (arith, e.same_threshold, k.thresholds);
    }

-- ---- the one with the lower threshold takes a turn

-- what a turn gives is next, and was held
pub gave_held : (s : Session) (t : Turn) → Shows s t → (p : ℕ) → t ≡ Packet p → (s.window.start ≡ p) × (held_at s.window p ≡ true)
gave_held s (Packet n) (shows_packet h) p e = let i : s.window.start ≡ p = cc in (i, ap (held_at s.window) (sym i) ∙ h)
gave_held s (Missing n) (shows_missing h q k l) p e = absurd cc
gave_held s Waiting (shows_waiting h n) p e = absurd cc

module _ (f : ℕ) (a b : State) (lk : Link f a b) where
  -- b has what a gives
  given_too : (p : ℕ) (c : List ℕ) → Memᴰ (gave p c) (told_by a) → Has b p c
  given_too p c m =
      let g = told_gave (slot a.store) (turn a.session) p c m in
      let h = gave_held a.session (turn a.session) (shows a.session) p g.0 in
      subst (Has b p) g.1 (has p h.0 h.1 (dec_lt p f))
    where
      has : (q : ℕ) → a.session.window.start ≡ q → held_at a.session.window q ≡ true → Dec (q < f) → Has b q (slot a.store q)
      has q i h (yes l) = (lk.due q (omega arith) l).1
      has q i h (no n) = inr (record { held = sym (lk.above q (omega arith)) ∙ h; bytes = sym (lk.bytes q (omega arith) h) })

  -- the frontier stays, or moves to the new next
  a_turns : (g : ℕ) → f ≤ g → (one_turn a.session).window.start ≤ g
      → (g ≤ f) ⊎ (g ≤ (one_turn a.session).window.start) → Link g (turned_once a) b
  a_turns g up l which =
      record {
        buffer_a = buffer_turned a lk.buffer_a;
        buffer_b = lk.buffer_b;
        alike = alike_a a.session b.session lk.alike;
        next_a = l;
        next_b = omega (arith, lk.next_b);
        above = λ p k. same p (omega arith) ∙ lk.above p (omega arith);
        bytes = λ p k h. lk.bytes p (omega arith) (sym (same p (omega arith)) ∙ h);
        due = λ p k m.
            let d = lk.due p (omega (arith, (turned_next a.session (turn a.session)).0)) (before p k m which) in
            (same p k ∙ d.0, d.1);
        served = λ p c m. ⊎_elim (lk.served p c) (given_too p c) (Memᴰ.append_cases a.events m);
        missing_too = λ p m. Memᴰ.append_left (told_by a) (lk.missing_too p m);
      }
    where
      same : (p : ℕ) → (one_turn a.session).window.start ≤ p
          → held_at (one_turn a.session).window p ≡ held_at a.session.window p
      same p k = turned_held a.session (turn a.session) (shows a.session) p k

      before : (p : ℕ) → (one_turn a.session).window.start ≤ p → p < g
          → (g ≤ f) ⊎ (g ≤ (one_turn a.session).window.start) → p < f
      before p k m (inl i) = omega arith
      before p k m (inr i) = absurd (omega arith)

  pub turn_a : (g : ℕ) × Link g (after_turn a) b
  unfolding after_turn
  turn_a = go (dec_lt f (one_turn a.session).window.start)
    where
      go : Dec (f < (one_turn a.session).window.start) → (g : ℕ) × Link g (turned_once a) b
      go (yes l) =
          let n = (one_turn a.session).window.start in
          (n, a_turns n (omega arith) (omega arith) (inr (omega arith)))
      go (no m) = (f, a_turns f (omega arith) (omega arith) (inl (omega arith)))

  -- what isn't held isn't before the frontier
  pub at_frontier : held_at a.session.window a.session.window.start ≡ false → f ≡ a.session.window.start
  at_frontier h = go (dec_lt a.session.window.start f)
    where
      go : Dec (a.session.window.start < f) → f ≡ a.session.window.start
      go (yes l) = absurd (true≢false (sym (lk.due a.session.window.start (omega arith) l).0 ∙ h))
      go (no n) = omega (arith, lk.next_a)

  pub turn_a_quiet : Quiet f a → Link f (after_turn a) b × Quiet f (after_turn a)
  unfolding after_turn
  turn_a_quiet quiet =
      let l = stays_below f a lk.next_a quiet in
      let s = a.session in (
        a_turns f (omega arith) l (inl (omega arith)),
        record {
          free = turned_held s (turn s) (shows s) f l ∙ quiet.free;
          near = λ q h k.
              quiet.near q (sym (turned_held s (turn s) (shows s) q (held_least (one_turn s).window q h)) ∙ h)
              (omega (arith, (keeps_turned s).same_threshold));
        },
      )

-- ---- the one with the higher threshold takes a turn

-- what a turn calls missing is next, and was not held
missed : (s : Session) (t : Turn) → Shows s t → (p : ℕ) → t ≡ Missing p
    → (s.window.start ≡ p) × (held_at s.window p ≡ false) × (p < (turned s t).window.start)
missed s (Packet n) (shows_packet h) p e = absurd cc
missed s (Missing n) (shows_missing h q k l) p e = let i : s.window.start ≡ p = cc in (i, ap (held_at s.window) (sym i) ∙ h, omega arith)
missed s Waiting (shows_waiting h n) p e = absurd cc

module _ (f : ℕ) (a b : State) (lk : Link f a b) (quiet : Quiet f a) where
  -- from the frontier on b holds what a does, and its threshold is no lower
  quiet_too : Quiet f b
  quiet_too =
      record {
        free = sym (lk.above f (omega arith)) ∙ quiet.free;
        near = λ q h l. quiet.near q (lk.above q (omega arith) ∙ h) (omega (arith, lk.alike.thresholds));
      }

  b_below : (one_turn b.session).window.start ≤ f
  b_below = stays_below f b lk.next_b quiet_too

  -- what b calls missing it neither gave nor holds, so a has called it missing
  missing_a : (p : ℕ) → turn b.session ≡ Missing p → CalledMissing a p
  missing_a p e =
      let m = missed b.session (turn b.session) (shows b.session) p e in
      go m.0 m.1 (omega (arith, m.2, b_below)) (dec_lt p a.session.window.start)
    where
      never : (c : List ℕ) → b.session.window.start ≡ p → held_at b.session.window p ≡ false → Has b p c → ⊥
      never c i h (inl m) = omega (arith, lk.buffer_b.before_next p c m)
      never c i h (inr k) = true≢false (sym k.held ∙ h)

      go : b.session.window.start ≡ p → held_at b.session.window p ≡ false → p < f → Dec (p < a.session.window.start) → CalledMissing a p
      go i h l (yes k) =
          ⊎_elim (λ (m : (c : List ℕ) × Served a p c). absurd (never m.0 i h (lk.served p m.0 m.1))) (λ (m : CalledMissing a p). m)
          (lk.buffer_a.settled p k)
      go i h l (no n) = absurd (never (slot a.store p) i h (lk.due p (omega arith) l).1)

  pub turn_b : Link f a (after_turn b)
  unfolding after_turn
  turn_b =
      let s = b.session in
      let t = turn b.session in
      let l = b_below in
      record {
        buffer_a = lk.buffer_a;
        buffer_b = buffer_turned b lk.buffer_b;
        alike = alike_b a.session s lk.alike;
        next_a = lk.next_a;
        next_b = l;
        above = λ p k. lk.above p k ∙ sym (turned_held s t (shows s) p (omega arith));
        bytes = lk.bytes;
        due = λ p k m. let d = lk.due p k m in (d.0, has_turned b lk.buffer_b p (slot a.store p) d.1);
        served = λ p c m. has_turned b lk.buffer_b p c (lk.served p c m);
        missing_too = λ p m.
            ⊎_elim (lk.missing_too p) (λ (k : Memᴰ (called_missing p) (turn_told (slot b.store) t)). missing_a p (told_missing (slot b.store) t p k))
            (Memᴰ.append_cases b.events m);
      }

-- ---- an offer is taken

-- only the one with the higher threshold takes it, before the frontier
pub take_b : (f : ℕ) (a b : State) (p : ℕ) (x : List ℕ) → Link f a b → p < f → Takes b p x → Link f a (takes b p x)
take_b f a b p x lk l tk =
    record {
      buffer_a = lk.buffer_a;
      buffer_b = buffer_taken b p x tk lk.buffer_b;
      alike = record { anchors = lk.alike.anchors; words = lk.alike.words; thresholds = lk.alike.thresholds };
      next_a = lk.next_a;
      next_b = lk.next_b;
      above = λ q k. lk.above q k ∙ sym (took_other b p x tk q (λ e. omega arith));
      bytes = λ q k h. lk.bytes q k h ∙ sym (slot_stays b p x tk q (sym (lk.above q k) ∙ h));
      due = λ q k m. let d = lk.due q k m in (d.0, has_taken b p x tk q (slot a.store q) d.1);
      served = λ q c m. has_taken b p x tk q c (lk.served q c m);
      missing_too = λ q m. lk.missing_too q (took_missing b p x tk q m);
    }

-- both take it
pub take_both : (f : ℕ) (a b : State) (p : ℕ) (x : List ℕ) → Link f a b → f ≤ p → Takes a p x → Takes b p x → Link f (takes a p x) (takes b p x)
take_both f a b p x lk l ta tb =
    record {
      buffer_a = buffer_taken a p x ta lk.buffer_a;
      buffer_b = buffer_taken b p x tb lk.buffer_b;
      alike = record { anchors = lk.alike.anchors; words = lk.alike.words; thresholds = lk.alike.thresholds };
      next_a = lk.next_a;
      next_b = lk.next_b;
      above = λ q k. above q k (ℕ_discrete q p);
      bytes = λ q k h. bytes q k h (ℕ_discrete q p);
      due = λ q k m.
          let d = lk.due q k m in (
            took_other a p x ta q (λ e. omega arith) ∙ d.0,
            subst (Has (takes b p x) q) (sym (slot_stays a p x ta q d.0)) (has_taken b p x tb q (slot a.store q) d.1),
          );
      served = λ q c m. has_taken b p x tb q c (lk.served q c (took_gave a p x ta q c m));
      missing_too = λ q m. Memᴰ.append_left (took p x ∷ []) (lk.missing_too q (took_missing b p x tb q m));
    }
  where
    above : (q : ℕ) → f ≤ q → Dec (q ≡ p) → held_at (takes a p x).session.window q ≡ held_at (takes b p x).session.window q
    above q k (yes e) = rw e (took_same a p x ta ∙ sym (took_same b p x tb))
    above q k (no n) = took_other a p x ta q n ∙ lk.above q k ∙ sym (took_other b p x tb q n)

    bytes : (q : ℕ) → f ≤ q → held_at (takes a p x).session.window q ≡ true → Dec (q ≡ p) → slot (takes a p x).store q ≡ slot (takes b p x).store q
    bytes q k h (yes e) = rw e (took_bytes a p x ta ∙ sym (took_bytes b p x tb))
    bytes q k h (no n) =
        let old : held_at a.session.window q ≡ true = sym (took_other a p x ta q n) ∙ h in
        slot_stays a p x ta q old ∙ lk.bytes q k old ∙ sym (slot_stays b p x tb q (sym (lk.above q k) ∙ old))
