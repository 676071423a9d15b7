-- A held packet's bytes: they go in at its position, no other call touches them, and they come out there.
use Prim.Native.Nat.{ℕ, zero, suc, ◌%◌, ◌≤◌}
use mathlib.Core.Path.{◌≡◌, refl, sym, ap, ◌∙◌, subst}
use mathlib.Core.Bool.{true, false, true≢false}
use mathlib.Core.List.{List, [], ◌∷◌}
use mathlib.Core.Logic.{◌⊎◌, inl, inr, ⊎_elim}
use native.Mathlib.Decide.{ℕ_discrete}
use native.Mathlib.Omega.{arith}
use lib.ListN.{length}
use Rattle.reorder_rules.specs.Turn as Turn-rules
use Rattle.reorder_rules.specs.Serve as Serve-rules
use Rattle.reorder_rules.specs.Pass as Pass-rules
use Rattle.reorder_rules.specs.Offer as Offer-rules
use Rattle.octets.specs.Bytes.{put}
use Rattle.octets.specs.Refusal.{Said, refused, answered, say}
use Rattle.octets.proofs.Ladder.{answer_said}
use Rattle.packet_check.proofs.Accept.{accepted}
use Rattle.window.specs.Window.{held_at, holding, freed, skipped, first_window}
use Rattle.window.proofs.Held.{held_least, held_most, freed_held, skipped_held, holding_same, holding_other}
use Rattle.reorder_session.specs.declared.Session.{Session}
use Rattle.reorder_session.specs.Session.{with_window, slot_start, slot, single}
use Rattle.reorder_session.specs.Calls.{offer_due, offer_of, turn, turned, shown, turns, turned_all, shown_all, serve_refusal, drain_refusal, serve_of, drain_of, pass_refusal, pass_of}
use Rattle.reorder_offer.specs.Opening.{open_due, open_of}
use Rattle.reorder_rules.proofs.Said.{outcome_cases, left, left_refused}
use Rattle.reorder_rules.proofs.Taken.{Taken, taken_offer}
use Rattle.reorder_rules.specs.declared.Turn.{Turn}
use Rattle.reorder_rules.specs.declared.Turn.TheVariants.{Packet, Missing, Waiting}
use Rattle.reorder_rules.specs.Turn.{bytes_at}
use Rattle.reorder_rules.proofs.Turns.{Split, turns_split}
use Rattle.reorder_turn.proofs.Turns.{Shows, shows_packet, shows_missing, shows_waiting, shows}
use Rattle.reorder_rules.proofs.Ready.{serve_ready, pass_ready}
use Rattle.reorder_offer.proofs.Opening.{accepted_opening}
use Rattle.reorder_laws.specs.Serves.{answer_at}
use Rattle.reorder_laws.specs.Held.{Holds, GivenBy, DrainedBy, BytesComeOut}
use Rattle.reorder_laws.proofs.Pieces.{piece_same, piece_other, slot_length}
use Rattle.reorder_laws.proofs.Drains.{drained, drained_packet}

-- ---- in

-- a packet's bytes, stored at its position
stored : (store b : List ℕ) (p : ℕ) → length store ≡ 34560 → length b ≡ 1080 → slot (put store (slot_start p) b) p ≡ b
stored store b p e l = piece_same store b (p % 32) l (omega arith)

first_held : (p : ℕ) → p ≡ 0 → held_at first_window p ≡ true
unfolding held_at
first_held p e = ap (held_at first_window) e

open_holds : (s : Session) (store b : List ℕ) (h word p : ℕ) → (open_of s store b h word).said ≡ answered p
    → Holds (open_of s store b h word).session (open_of s store b h word).bytes p b
unfolding open_of
open_holds s store b h word p e =
    let l = left (open_due (length store) b h word) s store _ _ p e in
    let o = accepted_opening (length store) b h word p l.answer in
    let a = accepted b word o.read in
    record {
      held = ap (λ (t : Session). held_at t.window p) l.session ∙ first_held p o.first;
      bytes = ap (λ (c : List ℕ). slot c p) l.bytes ∙ stored store b p o.store a.size;
    }

offer_holds : (s : Session) (store b : List ℕ) (p : ℕ) → (offer_of s store b).said ≡ answered p → Holds (offer_of s store b).session (offer_of s store b).bytes p b
unfolding Offer-rules.offer_of
offer_holds s store b p e =
    let l = left (offer_due s (length store) b) s store _ _ p e in
    let t = taken_offer single s (length store) b p l.answer in
    let a = accepted b s.sum_word t.read in
    record {
      held = ap (λ (u : Session). held_at u.window p) l.session ∙ holding_same s.window p t.position.least t.position.near;
      bytes = ap (λ (c : List ℕ). slot c p) l.bytes ∙ stored store b p t.store a.size;
    }

-- ---- kept

module _ (s : Session) (store : List ℕ) (p : ℕ) (b : List ℕ) (h : Holds s store p b) where
  least : s.window.start ≤ p
  least = held_least s.window p h.held

  -- another packet is taken at another position, which has other bytes
  pub beside : (c : List ℕ) (q : ℕ) → Taken single s (length store) c q → Holds (with_window s (holding s.window q)) (put store (slot_start q) c) p b
  beside c q t =
      let n : p ≡ q → ⊥ = λ e. true≢false (sym h.held ∙ ap (held_at s.window) e ∙ t.position.free) in
      let m : q % 32 ≡ p % 32 → ⊥ = λ e. omega (arith, n, least, held_most s.window p h.held, t.position.least, t.position.near) in
      record {
        held = holding_other s.window q t.position.least t.position.near p n ∙ h.held;
        bytes = piece_other store c (q % 32) (p % 32) (accepted c s.sum_word t.read).size (omega (arith, t.store)) m ∙ h.bytes;
      }

  -- next is not held, and passed over
  passed_over : held_at s.window s.window.start ≡ false → Holds (with_window s (skipped s.window)) store p b
  passed_over e =
      let n : p ≡ s.window.start → ⊥ = λ i. true≢false (sym h.held ∙ ap (held_at s.window) i ∙ e) in
      record { held = skipped_held s.window p e (omega (arith, least, n)) ∙ h.held; bytes = h.bytes }

  -- a turn keeps it, or gives it
  pub turn_gives : Holds (turned s (turn s)) store p b ⊎ (turn s ≡ Packet p)
  turn_gives = go (turn s) (shows s)
    where
      go : (t : Turn) → Shows s t → Holds (turned s t) store p b ⊎ (t ≡ Packet p)
      go (Packet q) (shows_packet e) = by (ℕ_discrete p s.window.start)
        where
          by : Dec (p ≡ s.window.start) → Holds (with_window s (freed s.window)) store p b ⊎ (Packet s.window.start ≡ Packet p)
          by (yes i) = inr (ap Packet (sym i))
          by (no n) = inl (record { held = freed_held s.window p (omega (arith, least, n)) ∙ h.held; bytes = h.bytes })
      go (Missing q) (shows_missing e r f l) = inl (passed_over e)
      go Waiting (shows_waiting e n) = inl h

offer_keeps : (s : Session) (store : List ℕ) (p : ℕ) (b c : List ℕ) → Holds s store p b → Holds (offer_of s store c).session (offer_of s store c).bytes p b
unfolding Offer-rules.offer_of
offer_keeps s store p b c h =
    outcome_cases (λ t x. Holds t x p b) (offer_due s (length store) c) s store _ _ h
    (λ q e. beside s store p b h c q (taken_offer single s (length store) c q e))

pass_keeps : (s : Session) (store : List ℕ) (p : ℕ) (b : List ℕ) → Holds s store p b → Holds (pass_of s).session store p b
unfolding Pass-rules.pass_of
pass_keeps s store p b h =
    outcome_cases (λ t x. Holds t store p b) (say (pass_refusal s) s.window.start) s [] _ _ h
    (λ q e. passed_over s store p b h (pass_ready single s (answer_said (pass_refusal s) s.window.start q (sym e)).0).free)

-- ---- out

serve_gives : (s : Session) (out store : List ℕ) (p : ℕ) (b : List ℕ) → Holds s store p b → Holds (serve_of s out store).session store p b ⊎ GivenBy s out store p b
unfolding Serve-rules.serve_of
serve_gives s out store p b h = go (serve_of s out store).said refl
  where
    n : ℕ
    n = serve_refusal s (length store) (length out)

    go : (x : Said Turn) → (serve_of s out store).said ≡ x → Holds (serve_of s out store).session store p b ⊎ GivenBy s out store p b
    go (refused m) e =
        let l = left_refused (say n (turn s)) s out (turned s) (shown s 0 store out) m e in
        inl (subst (λ (u : Session). Holds u store p b) (sym l.0) h)
    go (answered t) e = by (turn_gives s store p b h)
      where
        by : Holds (turned s (turn s)) store p b ⊎ (turn s ≡ Packet p) → Holds (serve_of s out store).session store p b ⊎ GivenBy s out store p b
        by k =
            let l = left (say n (turn s)) s out (turned s) (shown s 0 store out) t e in
            let a = answer_said n (turn s) t (sym l.answer) in
            let r = serve_ready single s (length store) (length out) a.0 in
            ⊎_elim
            (λ (i : Holds (turned s (turn s)) store p b). inl (subst (λ (u : Session). Holds u store p b) (sym (l.session ∙ ap (turned s) a.1)) i))
            (λ (i : turn s ≡ Packet p).
            inr (record {
              said = e ∙ ap answered (a.1 ∙ i);
              bytes =
                  ap (λ (c : List ℕ). bytes_at c 0) (l.bytes ∙ ap (shown s 0 store out) (a.1 ∙ i))
                  ∙ piece_same out (slot store p) 0 (slot_length store p r.store) (omega (arith, r.out)) ∙ h.bytes;
            }))
            k

-- of several turns one gives it, or all keep it
turns_give : (n : ℕ) (s : Session) (store : List ℕ) (p : ℕ) (b : List ℕ) → Holds s store p b
    → Holds (turned_all s (turns n s)) store p b ⊎ ((i : ℕ) × (answer_at (turns n s) i ≡ Packet p))
unfolding Turn-rules.turns Turn-rules.turned_all
turns_give zero s store p b h = inl h
turns_give (suc n) s store p b h = go (turns_split single n s) (turn_gives s store p b h) (λ k. turns_give n (turned s (turn s)) store p b k)
  where
    Result : List Turn → Type 0
    Result ts = Holds (turned_all s ts) store p b ⊎ ((i : ℕ) × (answer_at ts i ≡ Packet p))

    next : List Turn → Type 0
    next ts = Holds (turned_all (turned s (turn s)) ts) store p b ⊎ ((i : ℕ) × (answer_at ts i ≡ Packet p))

    later : (ts : List Turn) → next ts → Result (turn s ∷ ts)
    later ts (inl k) = inl k
    later ts (inr k) = inr (suc k.0, k.1)

    go : Split single n s → Holds (turned s (turn s)) store p b ⊎ (turn s ≡ Packet p)
        → (Holds (turned s (turn s)) store p b → next (turns n (turned s (turn s)))) → Result (turns (suc n) s)
    go (inl w) k r = subst Result (sym w.1) (inl h)
    go (inr e) (inl k) r = subst Result (sym e) (later (turns n (turned s (turn s))) (r k))
    go (inr e) (inr k) r = subst Result (sym e) (inr (0, k))

drain_gives : (s : Session) (out store : List ℕ) (budget p : ℕ) (b : List ℕ) → Holds s store p b
    → Holds (drain_of s out store budget).session store p b ⊎ DrainedBy s out store budget p b
unfolding Serve-rules.drain_of
drain_gives s out store budget p b h = go (drain_of s out store budget).said refl
  where
    go : (x : Said (List Turn)) → (drain_of s out store budget).said ≡ x → Holds (drain_of s out store budget).session store p b ⊎ DrainedBy s out store budget p b
    go (refused m) e =
        let l = left_refused (say (drain_refusal s (length store) (length out) budget) (turns budget s)) s out (turned_all s) (shown_all s 0 store out) m e in
        inl (subst (λ (u : Session). Holds u store p b) (sym l.0) h)
    go (answered ts) e =
        let d = drained s out store budget ts e in
        ⊎_elim
        (λ (i : Holds (turned_all s (turns budget s)) store p b).
        inl (subst (λ (u : Session). Holds u store p b) (sym (d.session ∙ ap (turned_all s) d.all)) i))
        (λ (i : (j : ℕ) × (answer_at (turns budget s) j ≡ Packet p)).
        let q : answer_at ts i.0 ≡ Packet p = ap (λ (us : List Turn). answer_at us i.0) d.all ∙ i.1 in
        inr (record {
          turns = ts;
          said = e;
          number = i.0;
          answer = q;
          bytes = drained_packet s out store budget ts d i.0 p q ∙ h.bytes;
        }))
        (turns_give budget s store p b h)

pub bytes_come_out : BytesComeOut
bytes_come_out =
    record {
      open_holds = open_holds;
      offer_holds = offer_holds;
      offer_keeps = offer_keeps;
      pass_keeps = pass_keeps;
      serve_gives = serve_gives;
      drain_gives = drain_gives;
    }
