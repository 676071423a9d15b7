-- What every call keeps: an accepted step leaves a session that isn't broken, a refusal the session itself.
use Prim.Native.Nat.{ℕ, zero, suc, ◌+◌, ◌≤◌, ◌<◌}
use mathlib.Core.Path.{◌≡◌, refl, sym, ap, ◌∙◌, subst}
use mathlib.Core.Bool.{true, false}
use mathlib.Core.List.{List, []}
use mathlib.Core.Logic.{inl, inr}
use native.Mathlib.Decide.{ℕ_discrete}
use native.Mathlib.Omega.{arith}
use lib.ListN.{length}
use Rattle.reorder_rules.specs.Turn as Turn-rules
use Rattle.reorder_rules.specs.Serve as Serve-rules
use Rattle.reorder_rules.specs.Pass as Pass-rules
use Rattle.reorder_rules.specs.Offer as Offer-rules
use Rattle.octets.specs.Refusal.{answered, say}
use Rattle.octets.proofs.Ladder.{answer_said}
use Rattle.octets.proofs.Store.{put_length}
use Rattle.packet_check.proofs.Accept.{accepted}
use Rattle.packet.specs.Fields.{fields_of}
use Rattle.window.specs.declared.Window.{Window}
use Rattle.window.specs.Window.{held_at, holding, freed, skipped, first_window}
use Rattle.window.proofs.Held.{held_least, held_most, freed_held, skipped_held, holding_other}
use Rattle.reorder_session.specs.declared.Session.{Session}
use Rattle.reorder_session.specs.Session.{broken, with_window, single}
use Rattle.reorder_session.specs.Calls.{offer_due, offer_of, turn, turned, turns, turned_all, serve_refusal, drain_refusal, serve_of, drain_of, pass_refusal, pass_of}
use Rattle.reorder_offer.specs.Opening.{opened, open_due, open_of}
use Rattle.reorder_rules.proofs.Said.{outcome_cases, left}
use Rattle.reorder_rules.proofs.Taken.{taken_offer}
use Rattle.reorder_rules.specs.declared.Turn.{Turn}
use Rattle.reorder_rules.specs.declared.Turn.TheVariants.{Packet, Missing, Waiting}
use Rattle.reorder_turn.proofs.Turns.{Shows, shows_packet, shows_missing, shows_waiting, shows}
use Rattle.reorder_rules.proofs.Turns.{Split, turns_split}
use Rattle.reorder_rules.proofs.Ready.{pass_ready}
use Rattle.reorder_session.proofs.Whole.{Whole, whole, unbroken}
use Rattle.reorder_offer.proofs.Opening.{accepted_opening}
use Rattle.reorder_laws.specs.Keeps.{Keeps, CallsKeep}

-- ---- a session that isn't broken, after each step

module _ (s : Session) (v : Whole s) where
  -- the same session with a window whose next and held positions are in order
  moved : (w : Window) → w.start ≤ 1000000 → ((p : ℕ) → held_at w p ≡ true → p ≤ 999999) → Whole (with_window s w)
  moved w l h =
      record {
        count = v.count;
        threshold_least = v.threshold_least;
        threshold_most = v.threshold_most;
        word_least = v.word_least;
        word_most = v.word_most;
        next_most = l;
        held_most = h;
      }

  pub whole_freed : held_at s.window s.window.start ≡ true → Whole (with_window s (freed s.window))
  whole_freed e =
      moved (freed s.window) (omega (arith, v.held_most s.window.start e))
      (λ p h. v.held_most p (sym (freed_held s.window p (omega (arith, held_least (freed s.window) p h))) ∙ h))

  pub whole_skipped : held_at s.window s.window.start ≡ false → s.window.start < 1000000 → Whole (with_window s (skipped s.window))
  whole_skipped e l =
      moved (skipped s.window) (omega arith)
      (λ p h. v.held_most p (sym (skipped_held s.window p e (omega (arith, held_least (skipped s.window) p h))) ∙ h))

  pub whole_holding : (p : ℕ) → s.window.start ≤ p → p ≤ s.window.start + 31 → p ≤ 999999 → Whole (with_window s (holding s.window p))
  whole_holding p lo hi top = moved (holding s.window p) v.next_most (λ q h. most q h (ℕ_discrete q p))
    where
      most : (q : ℕ) → held_at (holding s.window p) q ≡ true → Dec (q ≡ p) → q ≤ 999999
      most q h (yes i) = omega arith
      most q h (no n) = v.held_most q (sym (holding_other s.window p lo hi q n) ∙ h)

  pub whole_turned : Whole (turned s (turn s))
  whole_turned = go (turn s) (shows s)
    where
      go : (t : Turn) → Shows s t → Whole (turned s t)
      go (Packet p) (shows_packet e) = whole_freed e
      go (Missing p) (shows_missing e q h l) = whole_skipped e (omega (arith, v.held_most q h, l, v.threshold_least))
      go Waiting (shows_waiting e n) = v

-- ---- one step

pub keeps_none : (s : Session) → Keeps s s
keeps_none s = record { unbroken = λ e. e; next_grows = omega arith; same_anchor = refl; same_word = refl; same_threshold = refl }

keeps_then : (s t u : Session) → Keeps s t → Keeps t u → Keeps s u
keeps_then s t u a b =
    record {
      unbroken = λ e. b.unbroken (a.unbroken e);
      next_grows = omega (arith, a.next_grows, b.next_grows);
      same_anchor = b.same_anchor ∙ a.same_anchor;
      same_word = b.same_word ∙ a.same_word;
      same_threshold = b.same_threshold ∙ a.same_threshold;
    }

-- with another window
keeps_moved : (s : Session) (w : Window) → s.window.start ≤ w.start → (Whole s → Whole (with_window s w)) → Keeps s (with_window s w)
keeps_moved s w l f =
    record { unbroken = λ e. unbroken (with_window s w) (f (whole s e)); next_grows = l; same_anchor = refl; same_word = refl; same_threshold = refl }

pub keeps_turned : (s : Session) → Keeps s (turned s (turn s))
keeps_turned s = go (turn s) (λ v. whole_turned s v)
  where
    go : (t : Turn) → (Whole s → Whole (turned s t)) → Keeps s (turned s t)
    go (Packet p) f = keeps_moved s (freed s.window) (omega arith) f
    go (Missing p) f = keeps_moved s (skipped s.window) (omega arith) f
    go Waiting f = keeps_none s

-- ---- several turns

pub keeps_turns : (b : ℕ) (s : Session) → Keeps s (turned_all s (turns b s))
unfolding Turn-rules.turns Turn-rules.turned_all
keeps_turns zero s = keeps_none s
keeps_turns (suc b) s = go (turns_split single b s) (keeps_turns b (turned s (turn s)))
  where
    go : Split single b s → Keeps (turned s (turn s)) (turned_all (turned s (turn s)) (turns b (turned s (turn s)))) → Keeps s (turned_all s (turns (suc b) s))
    go (inl w) r = subst (λ (ts : List Turn). Keeps s (turned_all s ts)) (sym w.1) (keeps_none s)
    go (inr e) r = subst (λ (ts : List Turn). Keeps s (turned_all s ts)) (sym e) (keeps_then s (turned s (turn s)) _ (keeps_turned s) r)

-- ---- the calls

keeps_offer : (s : Session) (store b : List ℕ) → Keeps s (offer_of s store b).session
unfolding Offer-rules.offer_of
keeps_offer s store b =
    outcome_cases (λ t c. Keeps s t) (offer_due s (length store) b) s store _ _ (keeps_none s)
    (λ p e.
    let t = (taken_offer single s (length store) b p e).position in
    keeps_moved s (holding s.window p) (omega arith) (λ v. whole_holding s v p t.least t.near t.most))

keeps_serve : (s : Session) (out store : List ℕ) → Keeps s (serve_of s out store).session
unfolding Serve-rules.serve_of
keeps_serve s out store =
    outcome_cases (λ t c. Keeps s t) (say (serve_refusal s (length store) (length out)) (turn s)) s out (turned s) _ (keeps_none s)
    (λ t e. subst (λ (x : Turn). Keeps s (turned s x)) (sym (answer_said (serve_refusal s (length store) (length out)) (turn s) t (sym e)).1) (keeps_turned s))

keeps_drain : (s : Session) (out store : List ℕ) (budget : ℕ) → Keeps s (drain_of s out store budget).session
unfolding Serve-rules.drain_of
keeps_drain s out store budget =
    let n = drain_refusal s (length store) (length out) budget in
    outcome_cases (λ t c. Keeps s t) (say n (turns budget s)) s out (turned_all s) _ (keeps_none s)
    (λ ts e. subst (λ (x : List Turn). Keeps s (turned_all s x)) (sym (answer_said n (turns budget s) ts (sym e)).1) (keeps_turns budget s))

keeps_pass : (s : Session) → Keeps s (pass_of s).session
unfolding Pass-rules.pass_of
keeps_pass s =
    outcome_cases (λ t c. Keeps s t) (say (pass_refusal s) s.window.start) s [] _ _ (keeps_none s)
    (λ p e.
    let r = pass_ready single s (answer_said (pass_refusal s) s.window.start p (sym e)).0 in
    keeps_moved s (skipped s.window) (omega arith) (λ v. whole_skipped s v r.free (omega (arith, v.next_most, r.before_end))))

-- an opening holds position 0 alone
first_held : (p : ℕ) → held_at first_window p ≡ true → p ≤ 999999
first_held p e = omega (arith, held_most first_window p e)

counts : (b : List ℕ) → (fields_of b).count ≤ 16383
unfolding fields_of
counts b = omega arith

open-whole : (s : Session) (store b : List ℕ) (h word p : ℕ) → (open_of s store b h word).said ≡ answered p → broken (open_of s store b h word).session ≡ false
unfolding open_of
open-whole s store b h word p e =
    let l = left (open_due (length store) b h word) s store _ _ p e in
    let o = accepted_opening (length store) b h word p l.answer in
    let a = accepted b word o.read in
    ap broken l.session
    ∙ unbroken (opened (fields_of b) h word)
    (record {
      count = counts b;
      threshold_least = o.least;
      threshold_most = o.most;
      word_least = a.from;
      word_most = a.to;
      next_most = omega arith;
      held_most = first_held;
    })

open-size : (s : Session) (store b : List ℕ) (h word : ℕ) → length (open_of s store b h word).bytes ≡ length store
unfolding open_of
open-size s store b h word = outcome_cases (λ t c. length c ≡ length store) (open_due (length store) b h word) s store _ _ refl (λ p e. put_length store _ b)

offer_size : (s : Session) (store b : List ℕ) → length (offer_of s store b).bytes ≡ length store
unfolding Offer-rules.offer_of
offer_size s store b = outcome_cases (λ t c. length c ≡ length store) (offer_due s (length store) b) s store _ _ refl (λ p e. put_length store _ b)

pub calls_keep : CallsKeep
calls_keep =
    record {
      by_open = open-whole;
      by_open_store = open-size;
      by_offer = keeps_offer;
      by_offer_store = offer_size;
      by_serve = keeps_serve;
      by_drain = keeps_drain;
      by_pass = keeps_pass;
    }
