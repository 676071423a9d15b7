-- A drain of 32 goes past every position that can be held, so a buffer waits after it.
use Prim.Native.Nat.{ℕ, zero, suc, ◌+◌, ◌<◌}
use mathlib.Core.Path.{◌≡◌, refl, sym, ap, ◌∙◌, subst}
use mathlib.Core.Bool.{Bool, true, false}
use mathlib.Core.List.{List, [], ◌∷◌, map}
use mathlib.Core.Logic.{◌⊎◌, inl, inr}
use native.Mathlib.Omega.{arith}
use lib.ListN.{length}
use Rattle.reorder_rules.specs.Turn as Turn-rules
use Rattle.reorder_rules.specs.Serve as Serve-rules
use Rattle.octets.specs.Refusal.{answered, say}
use Rattle.octets.proofs.Ladder.{then_pass, pass_eq, pass_le, say_answered}
use Rattle.window.specs.Window.{held_at}
use Rattle.std.proofs.lemmas.Bool.{false_from_ne_true}
use Rattle.window.proofs.Held.{held_least, held_most, none_held}
use Rattle.reorder_session.specs.declared.Session.{Session}
use Rattle.reorder_session.specs.Session.{single}
use Rattle.reorder_rules.proofs.Said.{said_is}
use Rattle.reorder_rules.specs.declared.Turn.{Turn}
use Rattle.reorder_rules.specs.declared.Turn.TheVariants.{Waiting}
use Rattle.reorder_session.specs.Calls.{turn, turns, turned_all, shown_all, serve_of, drain_of, drain_refusal}
use Rattle.reorder_rules.proofs.Turns.{turn_waiting, one_more, moves_or, Moves, turns_stop, turns_more}
use Rattle.reorder_turn.proofs.Turns.{shows}
use Rattle.reorder_session.proofs.Whole.{Whole, whole, unbroken, whole_fit, fit_whole}
use Rattle.reorder_laws.proofs.Kept.{keeps_turns, calls_keep}
use Rattle.reorder_laws.proofs.Drains.{drained, fine}
use Rattle.reorder_histories.specs.History as History-rules
use Rattle.reorder_histories.specs.History.{offer, drain, offers}
use Rattle.reorder_histories.specs.Histories.{State, step, Waits, WaitsAfter, Supposed, Consumer, at_start}
use Rattle.reorder_histories.specs.Drained.{whole_budget, Arrival, packet_of, drained_after_each, Sized, NoneTooFar, DrainedConsumer, DrainsMeetDemand3}
use Rattle.reorder_histories.proofs.Between.{one_turn}
use Rattle.reorder_histories.proofs.Buffer.{turned_held}
use Rattle.reorder_histories.proofs.Theorem.{opened_size, higher_threshold_loses_nothing}

-- after as many turns as reach past all that is held, nothing is
past_all : (n : ℕ) (s : Session) → ((q : ℕ) → held_at s.window q ≡ true → q < s.window.start + n) → turn (turned_all s (turns n s)) ≡ Waiting
unfolding Turn-rules.turns Turn-rules.turned_all
past_all zero s h =
    turn_waiting single s (false_from_ne_true (held_at s.window s.window.start) (λ e. omega (arith, h s.window.start e)))
    (none_held s.window (s.window.start + s.threshold) (λ q e l. omega (arith, h q e, held_least s.window q e)))
past_all (suc n) s h = go (moves_or (turn s)) (past_all n (one_turn s))
  where
    go : (turn s ≡ Waiting) ⊎ Moves (turn s)
        → (((q : ℕ) → held_at (one_turn s).window q ≡ true → q < (one_turn s).window.start + n) → turn (turned_all (one_turn s) (turns n (one_turn s))) ≡ Waiting)
        → turn (turned_all s (turns (suc n) s)) ≡ Waiting
    go (inl e) r = ap (λ (ts : List Turn). turn (turned_all s ts)) (turns_stop single (suc n) s e) ∙ e
    go (inr k) r =
        ap (λ (ts : List Turn). turn (turned_all s ts)) (turns_more single n s (turn s) refl k)
        ∙ r (λ q e.
        let l = held_least (one_turn s).window q e in
        omega (arith, h q (sym (turned_held s (turn s) (shows s) q l) ∙ e), one_more single (λ t. refl) (λ t. refl) s (turn s) k))

drained_waits : (σ : State) (out : List ℕ) (ts : List Turn) → (drain_of σ.session out σ.store whole_budget).said ≡ answered ts
    → Waits (step σ (drain out whole_budget))
unfolding History-rules.step
drained_waits σ out ts e =
    let s = σ.session in
    let d = drained s out σ.store whole_budget ts e in
    let t = turned_all s (turns whole_budget s) in
    let same : (drain_of s out σ.store whole_budget).session ≡ t = d.session ∙ ap (turned_all s) d.all in
    let v : Whole t = whole t ((keeps_turns whole_budget s).unbroken (unbroken s (whole_fit s d.ready.fit))) in
    let f = fine σ.store d.ready.store out (omega (arith, d.ready.out)) t v in
    let all : turn t ≡ Waiting = past_all whole_budget s (λ q h. omega (arith, held_most s.window q h)) in
    record {
      out = out;
      room = omega (arith, d.ready.out);
      answers = ap (λ (x : Session). (serve_of x out σ.store).said) same ∙ f.says ∙ ap answered all;
    }

-- ---- offers, and a drain after each

-- what every call keeps, and a drain needs
record Ready (σ : State) : Type 0 where
  sound : Whole σ.session
  size : length σ.store ≡ 34560

after_offer : (σ : State) (b : List ℕ) → Ready σ → Ready (step σ (offer b))
unfolding History-rules.step
after_offer σ b r =
    record {
      sound = whole _ ((calls_keep.by_offer σ.session σ.store b).unbroken (unbroken σ.session r.sound));
      size = calls_keep.by_offer_store σ.session σ.store b ∙ r.size;
    }

module _ (out : List ℕ) (room : length out ≡ 34560) where
  after_drain : (σ : State) → Ready σ → Ready (step σ (drain out whole_budget))
  unfolding History-rules.step
  after_drain σ r =
      record {
        sound = whole _ ((calls_keep.by_drain σ.session out σ.store whole_budget).unbroken (unbroken σ.session r.sound));
        size = r.size;
      }

  waits_then : (σ : State) → Ready σ → Waits (step σ (drain out whole_budget))
  unfolding Serve-rules.drain_of Serve-rules.drain_refusal
  waits_then σ r =
      let s = σ.session in
      let n = drain_refusal s (length σ.store) (length out) whole_budget in
      let z : n ≡ 0 =
      sym
      (then_pass _ _ 0 (fit_whole s r.sound)
      (pass_eq (length σ.store) 34560 27 _ 0 r.size (pass_eq (length out) 34560 29 _ 0 room (pass_le whole_budget 32 31 0 0 (omega arith) refl)))) in
      drained_waits σ out (turns whole_budget s)
      (said_is (say n (turns whole_budget s)) s out (turned_all s) (shown_all s 0 σ.store out) ∙ sym (say_answered n (turns whole_budget s) (turns whole_budget s) z refl))

supposed : (l : List Arrival) → Sized l → (offered : Bool) (σ : State) → Ready σ → WaitsAfter offered σ → NoneTooFar σ (drained_after_each l)
    → Supposed offered σ (drained_after_each l)
unfolding drained_after_each Sized NoneTooFar Supposed
supposed [] sized offered σ r h n = h
supposed (a ∷ l) sized offered σ r h n =
    let τ = step σ (offer a.packet) in
    let q = after_offer σ a.packet r in
    (h, n.0, supposed l sized.1 true (step τ (drain a.out whole_budget)) (after_drain a.out sized.0 τ q) (waits_then a.out sized.0 τ q) n.1)

same_packets : (l : List Arrival) → offers (drained_after_each l) ≡ map packet_of l
unfolding drained_after_each offers
same_packets [] = refl
same_packets (a ∷ l) = ap (λ (k : List (List ℕ)). a.packet ∷ k) (same_packets l)

module _ (c : Consumer) (b : List ℕ) (word : ℕ) (packets : List (List ℕ)) (d : DrainedConsumer c b word packets) where
  ready : Ready (at_start c b word)
  ready =
      record {
        sound = whole _ (calls_keep.by_open c.before c.store b c.threshold word 0 d.accepted);
        size = calls_keep.by_open_store c.before c.store b c.threshold word ∙ opened_size c b word d.accepted;
      }

  list_supposed : Supposed false (at_start c b word) c.calls
  list_supposed =
      subst (Supposed false (at_start c b word)) (sym d.calls)
      (supposed d.arrivals d.sized false (at_start c b word) ready tt (subst (NoneTooFar (at_start c b word)) d.calls d.near))

  offered_packets : offers c.calls ≡ packets
  offered_packets = ap offers d.calls ∙ same_packets d.arrivals ∙ d.offered

pub drains_meet_demand_3 : DrainsMeetDemand3
drains_meet_demand_3 =
    record {
      drained_waits = drained_waits;
      lose_nothing = λ less more b word packets l d e.
          higher_threshold_loses_nothing less more b word
          (record {
            less_accepted = d.accepted;
            more_accepted = e.accepted;
            thresholds = l;
            same_offers = offered_packets less b word packets d ∙ sym (offered_packets more b word packets e);
            less_list = list_supposed less b word packets d;
            more_list = list_supposed more b word packets e;
          });
    }
