-- Demand 3: both openings are linked, and every turn and every offer of the two lists keeps them so.
use Prim.Native.Nat.{ℕ, zero, suc, ◌≤◌}
use mathlib.Core.Path.{◌≡◌, refl, sym, ap, ◌∙◌, subst}
use mathlib.Core.Bool.{Bool, true, false, true≢false}
use mathlib.Core.List.Memᴰ
use mathlib.Core.List.{List, [], ◌∷◌, Memᴰ}
use mathlib.Core.Logic.{inr}
use native.Mathlib.Omega.{arith}
use lib.ListN.{length}
use Rattle.reorder_rules.specs.Serve as Serve-rules
use Rattle.octets.specs.Refusal.{answered, say}
use Rattle.octets.proofs.Ladder.{answer_said}
use Rattle.packet.specs.Fields.{fields_of}
use Rattle.window.specs.declared.Window.{Window}
use Rattle.window.specs.Window.{held_at, first_window}
use Rattle.std.proofs.lemmas.Bool.{false_from_ne_true}
use Rattle.window.proofs.Held.{first_held}
use Rattle.reorder_session.specs.declared.Session.{Session}
use Rattle.reorder_session.specs.Session.{slot}
use Rattle.reorder_offer.specs.Opening.{opened, open_due, open_of}
use Rattle.reorder_rules.proofs.Said.{left}
use Rattle.reorder_rules.specs.declared.Turn.{Turn}
use Rattle.reorder_rules.specs.declared.Turn.TheVariants.{Packet, Missing, Waiting}
use Rattle.reorder_session.specs.Calls.{turn, turned, shown, serve_refusal}
use Rattle.reorder_turn.proofs.Turns.{Shows, shows_packet, shows_missing, shows_waiting, shows}
use Rattle.reorder_session.proofs.Whole.{Whole, whole}
use Rattle.reorder_offer.proofs.Opening.{accepted_opening}
use Rattle.reorder_laws.specs.Held.{Holds}
use Rattle.reorder_laws.proofs.Kept.{calls_keep}
use Rattle.reorder_laws.proofs.Bytes.{bytes_come_out}
use Rattle.reorder_histories.specs.History.{offer, offers, Event, took, offer_tells}
use Rattle.reorder_histories.specs.Histories.{State, step, run, Waits, WaitsAfter, Consumer, opening, at_start, StillHeld, HigherThresholdLosesNothing}
use Rattle.reorder_histories.proofs.Between.{after_turn, after_turns, Played, played}
use Rattle.reorder_histories.proofs.Buffer.{gave≢took, missing≢took, Buffer, Has}
use Rattle.reorder_histories.proofs.Link.{Link, Quiet, at_frontier, turn_a, turn_a_quiet, turn_b, nothing_lost}
use Rattle.reorder_histories.proofs.Offers.{link_offer}

-- ---- a buffer that waits

waits_turn : (σ : State) → Waits σ → turn σ.session ≡ Waiting
unfolding Serve-rules.serve_of
waits_turn σ q =
    let s = σ.session in
    let n = serve_refusal s (length σ.store) (length q.out) in
    let l = left (say n (turn s)) s q.out (turned s) (shown s 0 σ.store q.out) Waiting q.answers in
    sym (answer_said n (turn s) Waiting (sym l.answer)).1

waits_quiet : (f : ℕ) (a b : State) → Link f a b → Waits a → Quiet f a
waits_quiet f a b lk q = go (turn a.session) (shows a.session) (waits_turn a q)
  where
    go : (t : Turn) → Shows a.session t → t ≡ Waiting → Quiet f a
    go (Packet p) (shows_packet h) e = absurd cc
    go (Missing p) (shows_missing h r k l) e = absurd cc
    go Waiting (shows_waiting h n) e =
        let i : f ≡ a.session.window.start = at_frontier f a b lk h in
        record { free = ap (held_at a.session.window) i ∙ h; near = λ r k m. n r k (omega arith) }

-- ---- the turns between two offers

turns_a : (n f : ℕ) (a b : State) → Link f a b → (g : ℕ) × Link g (after_turns n a) b
unfolding after_turns
turns_a zero f a b lk = (f, lk)
turns_a (suc n) f a b lk = let r = turn_a f a b lk in turns_a n r.0 (after_turn a) b r.1

turns_a_quiet : (n f : ℕ) (a b : State) → Link f a b → Quiet f a → Link f (after_turns n a) b × Quiet f (after_turns n a)
unfolding after_turns
turns_a_quiet zero f a b lk q = (lk, q)
turns_a_quiet (suc n) f a b lk q = let r = turn_a_quiet f a b lk q in turns_a_quiet n f (after_turn a) b r.0 r.1

turns_b : (n f : ℕ) (a b : State) → Link f a b → Quiet f a → Link f a (after_turns n b)
unfolding after_turns
turns_b zero f a b lk q = lk
turns_b (suc n) f a b lk q = turns_b n f a (after_turn b) (turn_b f a b lk q) q

-- before the first offer a is quiet at the frontier; after it a waits before the next
abbrev Ready : Bool → ℕ → State → Type 0
Ready true f a = Unit {0}
Ready false f a = Quiet f a

between : (offered : Bool) (f n m : ℕ) (a b : State) → Link f a b → Ready offered f a → WaitsAfter offered (after_turns n a)
    → (g : ℕ) × Link g (after_turns n a) (after_turns m b)
between true f n m a b lk r q =
    let k = turns_a n f a b lk in
    (k.0, turns_b m k.0 (after_turns n a) b k.1 (waits_quiet k.0 (after_turns n a) b k.1 q))
between false f n m a b lk r q = let k = turns_a_quiet n f a b lk r in (f, turns_b m f (after_turns n a) b k.0 k.1)

-- ---- the whole lists

link_played : (xs : List (List ℕ)) (offered : Bool) (f : ℕ) (a b u v : State) → Link f a b → Ready offered f a → Played offered a xs u → Played offered b xs v
    → (g : ℕ) × Link g u v
unfolding Played
link_played [] offered f a b u v lk r p q =
    let k = between offered f p.0 q.0 a b lk r p.1 in (
      k.0,
      subst (λ (x : State). Link k.0 x v) (sym p.2) (subst (Link k.0 (after_turns p.0 a)) (sym q.2) k.1),
    )
link_played (x ∷ xs) offered f a b u v lk r p q =
    let k = between offered f p.0 q.0 a b lk r p.1 in
    link_played xs true k.0 (step (after_turns p.0 a) (offer x)) (step (after_turns q.0 b) (offer x)) u v
    (link_offer k.0 (after_turns p.0 a) (after_turns q.0 b) k.1 x p.2 q.2) tt p.3 q.3

-- ---- the openings

-- what an accepted opening leaves
record First (σ : State) (b : List ℕ) (h word : ℕ) : Type 0 where
  session : σ.session ≡ opened (fields_of b) h word
  events : σ.events ≡ took 0 b ∷ []
  sound : Whole σ.session
  size : length σ.store ≡ 34560
  holds : Holds σ.session σ.store 0 b

-- its store has the right size
pub opened_size : (c : Consumer) (b : List ℕ) (word : ℕ) → (opening c b word).said ≡ answered 0 → length c.store ≡ 34560
unfolding open_of
opened_size c b word e =
    let l = left (open_due (length c.store) b c.threshold word) c.before c.store _ _ 0 e in
    (accepted_opening (length c.store) b c.threshold word 0 l.answer).store

first : (c : Consumer) (b : List ℕ) (word : ℕ) → (opening c b word).said ≡ answered 0 → First (at_start c b word) b c.threshold word
unfolding open_of
first c b word e =
    let l = left (open_due (length c.store) b c.threshold word) c.before c.store _ _ 0 e in
    record {
      session = l.session;
      events = ap (λ (x : _). offer_tells x b) e;
      sound = whole _ (calls_keep.by_open c.before c.store b c.threshold word 0 e);
      size = calls_keep.by_open_store c.before c.store b c.threshold word ∙ opened_size c b word e;
      holds = bytes_come_out.open_holds c.before c.store b c.threshold word 0 e;
    }

module _ (σ : State) (b : List ℕ) (h word : ℕ) (fs : First σ b h word) where
  window_is : σ.session.window ≡ first_window
  window_is = ap (λ (s : Session). s.window) fs.session

  held_zero : (p : ℕ) → held_at σ.session.window p ≡ true → p ≡ 0
  held_zero p e = first_held p (ap (λ (v : Window). held_at v p) (sym window_is) ∙ e)

  held_only : (p : ℕ) → 1 ≤ p → held_at σ.session.window p ≡ false
  held_only p l = false_from_ne_true (held_at σ.session.window p) (λ e. omega (arith, held_zero p e))

  next_zero : σ.session.window.start ≡ 0
  next_zero = ap (λ (v : Window). v.start) window_is

  first_event : (x : Event) → Memᴰ x σ.events → x ≡ took 0 b
  first_event x m = Memᴰ.eq_of_singleton (subst (Memᴰ x) fs.events m)

  first_buffer : Buffer σ
  first_buffer =
      record {
        sound = fs.sound;
        size = fs.size;
        settled = λ p l. absurd (omega (arith, next_zero));
        before_next = λ p c m. absurd (gave≢took p 0 c b (first_event _ m));
        held = λ p e. subst (λ (k : ℕ). StillHeld σ k (slot σ.store k)) (sym (held_zero p e)) still;
      }
    where
      still : StillHeld σ 0 (slot σ.store 0)
      still = record {
        earlier = [];
        since = [];
        taken = fs.events ∙ ap (λ (c : List ℕ). took 0 c ∷ []) (sym fs.holds.bytes);
        not_given = λ c m. Memᴰ.not-nil m;
        bytes = refl;
      }

  first_quiet : Quiet 1 σ
  first_quiet = record { free = held_only 1 (omega arith); near = λ q k l. omega (arith, held_zero q k) }

first_link : (a b : State) (x : List ℕ) (h k word : ℕ) → First a x h word → First b x k word → h ≤ k → Link 1 a b
first_link a b x h k word fa fb l =
    record {
      buffer_a = first_buffer a x h word fa;
      buffer_b = first_buffer b x k word fb;
      alike = record {
        anchors = ap (λ (s : Session). s.anchor) fa.session ∙ sym (ap (λ (s : Session). s.anchor) fb.session);
        words = ap (λ (s : Session). s.sum_word) fa.session ∙ sym (ap (λ (s : Session). s.sum_word) fb.session);
        thresholds = less;
      };
      next_a = omega (arith, next_zero a x h word fa);
      next_b = omega (arith, next_zero b x k word fb);
      above = λ p m. held_only a x h word fa p m ∙ sym (held_only b x k word fb p m);
      bytes = λ p m e. absurd (true≢false (sym e ∙ held_only a x h word fa p m));
      due = λ p m n. (let z : p ≡ 0 = omega arith in subst Due (sym z) due);
      served = λ p c m. absurd (gave≢took p 0 c x (first_event a x h word fa _ m));
      missing_too = λ p m. absurd (missing≢took p 0 x (first_event b x k word fb _ m));
    }
  where
    less : a.session.threshold ≤ b.session.threshold
    less =
        let d : a.session.threshold ≡ h = ap (λ (s : Session). s.threshold) fa.session in
        let e : b.session.threshold ≡ k = ap (λ (s : Session). s.threshold) fb.session in
        omega arith

    Due : ℕ → Type 0
    Due p = (held_at a.session.window p ≡ true) × Has b p (slot a.store p)

    due : Due 0
    due = (
      fa.holds.held,
      inr (record { held = fb.holds.held; bytes = fb.holds.bytes ∙ sym fa.holds.bytes }),
    )

-- ---- demand 3

pub higher_threshold_loses_nothing : HigherThresholdLosesNothing
higher_threshold_loses_nothing less more b word o =
    let a = at_start less b word in
    let c = at_start more b word in
    let fa = first less b word o.less_accepted in
    let fc = first more b word o.more_accepted in
    let p = played less.calls false a o.less_list in
    let q = played more.calls false c o.more_list in
    let k =
    link_played (offers more.calls) false 1 a c (run a less.calls) (run c more.calls)
    (first_link a c b less.threshold more.threshold word fa fc o.thresholds) (first_quiet a b less.threshold word fa)
    (subst (λ (xs : List (List ℕ)). Played false a xs (run a less.calls)) o.same_offers p) q in
    nothing_lost k.0 _ _ k.1
