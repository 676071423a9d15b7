-- The calls between two offers are turns of serving: a serve that isn't refused is one turn, a drain as many as it answers, a refused call none.
use Prim.Native.Nat.{ℕ, zero, suc, ◌+◌, ◌≤◌}
use mathlib.Core.Path.{◌≡◌, refl, sym, ap, ◌∙◌, subst}
use mathlib.Core.Bool.{Bool, true}
use mathlib.Core.List.{List, [], ◌∷◌, ◌++◌, append-nil, append_assoc}
use mathlib.Core.Logic.{inl, inr}
use native.Mathlib.Omega.{arith}
use lib.ListN.{length}
use Rattle.reorder_rules.specs.Turn as Turn-rules
use Rattle.reorder_rules.specs.Serve as Serve-rules
use Rattle.reorder_rules.specs.Pass as Pass-rules
use Rattle.octets.specs.Refusal.{Said, refused, answered, say}
use Rattle.octets.proofs.Ladder.{answer_said}
use Rattle.window.specs.Window.{skipped}
use Rattle.reorder_session.specs.declared.Session.{Session}
use Rattle.reorder_session.specs.Session.{slot, with_window, single}
use Rattle.reorder_rules.specs.Outcome.{Outcome, outcome}
use Rattle.reorder_rules.specs.declared.Turn.{Turn}
use Rattle.reorder_rules.specs.declared.Turn.TheVariants.{Packet, Missing, Waiting}
use Rattle.reorder_rules.specs.Turn.{bytes_at}
use Rattle.reorder_session.specs.Calls.{turn, turned, shown, turns, turned_all, shown_all, serve_refusal, drain_refusal, pass_refusal}
use Rattle.reorder_rules.proofs.Ready.{ServeReady, serve_ready, DrainReady, drain_ready}
use Rattle.reorder_laws.specs.Serves.{answer_at}
use Rattle.reorder_laws.proofs.Pieces.{piece_same, slot_length, shown_packet}
use Rattle.reorder_rules.proofs.Turns.{Split, turns_split, turns_most}
use Rattle.reorder_histories.specs.History as History-rules
use Rattle.reorder_histories.specs.History.{Call, offer, serve, drain, pass, offers, Event, gave, called_missing, turns_tell, serve_tells, drain_tells, pass_tells}
use Rattle.reorder_histories.specs.Histories.{State, step, run, WaitsAfter, NotTooFar, PassRefused, Supposed}

-- ---- turns

-- what a turn tells, by the bytes of each position
abbrev pub turn_told : (ℕ → List ℕ) → Turn → List Event
turn_told bytes (Packet p) = gave p (bytes p) ∷ []
turn_told bytes (Missing p) = called_missing p ∷ []
turn_told bytes Waiting = []

-- a turn's bytes are those in the store
abbrev pub turned_by : State → Turn → State
turned_by σ t = record { session = turned σ.session t; store = σ.store; events = σ.events ++ turn_told (slot σ.store) t }

-- one turn: the session then, what it tells, and the state then
abbrev pub one_turn : Session → Session
one_turn s = turned s (turn s)

abbrev pub told_by : State → List Event
told_by σ = turn_told (slot σ.store) (turn σ.session)

abbrev pub turned_once : State → State
turned_once σ = turned_by σ (turn σ.session)

unfoldable pub after_turn : State → State
after_turn σ = turned_once σ

unfoldable pub after_turns : ℕ → State → State
after_turns zero σ = σ
after_turns (suc n) σ = after_turns n (after_turn σ)

-- from σ some turns lead to v
abbrev pub ByTurns : State → State → Type 0
ByTurns σ v = (n : ℕ) × (v ≡ after_turns n σ)

turns_then : (m n : ℕ) (σ : State) → ByTurns σ (after_turns n (after_turns m σ))
unfolding after_turns
turns_then zero n σ = (n, refl)
turns_then (suc m) n σ = let r = turns_then m n (after_turn σ) in (suc r.0, r.1)

-- nothing told
pub same_state : (σ : State) → (record { session = σ.session; store = σ.store; events = σ.events ++ [] }) ≡ σ
same_state σ = λ i. record { session = σ.session; store = σ.store; events = append-nil σ.events i }

no_turn : (σ : State) → ByTurns σ (record { session = σ.session; store = σ.store; events = σ.events ++ [] })
unfolding after_turns
no_turn σ = (0, same_state σ)

-- ---- a serve

serve_turns : (σ : State) (out : List ℕ) → ByTurns σ (step σ (serve out))
unfolding History-rules.step Serve-rules.serve_of turns_tell after_turn after_turns
serve_turns σ out = go (say n (turn s)) refl
  where
    s : Session
    s = σ.session

    n : ℕ
    n = serve_refusal s (length σ.store) (length out)

    tells_it : ServeReady single σ.session (length σ.store) (length out) → (t : Turn) → turns_tell 0 (t ∷ []) (shown σ.session 0 σ.store out t) ≡ turn_told (slot σ.store) t
    tells_it r (Packet p) =
        ap (λ (b : List ℕ). gave p b ∷ []) (piece_same out (slot σ.store p) 0 (slot_length σ.store p r.store) (omega (arith, r.out)))
    tells_it r (Missing p) = refl
    tells_it r Waiting = refl

    after : Said Turn → State
    after x =
        let o = outcome x s out (turned s) (shown s 0 σ.store out) in
        record { session = o.session; store = σ.store; events = σ.events ++ serve_tells o.said o.bytes }

    go : (x : Said Turn) → say n (turn s) ≡ x → ByTurns σ (after x)
    go (refused m) e = no_turn σ
    go (answered t) e =
        let a = answer_said n (turn s) t (sym e) in
        let r = serve_ready single s (length σ.store) (length out) a.0 in (
          1,
          (λ i. record { session = turned s t; store = σ.store; events = σ.events ++ tells_it r t i }) ∙ ap (turned_by σ) a.1,
        )

-- ---- a drain

abbrev pub turns_told : (ℕ → List ℕ) → List Turn → List Event
turns_told bytes [] = []
turns_told bytes (t ∷ ts) = turn_told bytes t ++ turns_told bytes ts

-- where the output has each packet's bytes at its number
pub told_all : (bytes : ℕ → List ℕ) (out : List ℕ) (ts : List Turn) (k : ℕ) → ((i p : ℕ) → answer_at ts i ≡ Packet p → bytes_at out (k + i) ≡ bytes p)
    → turns_tell k ts out ≡ turns_told bytes ts
unfolding turns_tell
told_all bytes out [] k h = refl
told_all bytes out (t ∷ ts) k h = go t (λ p e. first p e) (told_all bytes out ts (suc k) later)
  where
    first : (p : ℕ) → t ≡ Packet p → bytes_at out k ≡ bytes p
    first p e = let z : k ≡ k + 0 = omega arith in ap (bytes_at out) z ∙ h 0 p e

    later : (i p : ℕ) → answer_at ts i ≡ Packet p → bytes_at out (suc k + i) ≡ bytes p
    later i p e = let z : suc k + i ≡ k + suc i = omega arith in ap (bytes_at out) z ∙ h (suc i) p e

    go : (u : Turn) → ((p : ℕ) → u ≡ Packet p → bytes_at out k ≡ bytes p) → turns_tell (suc k) ts out ≡ turns_told bytes ts
        → turns_tell k (u ∷ ts) out ≡ turn_told bytes u ++ turns_told bytes ts
    go (Packet p) f r = λ i. gave p (f p refl i) ∷ r i
    go (Missing p) f r = ap (λ (l : List Event). called_missing p ∷ l) r
    go Waiting f r = r

all_turns : (n : ℕ) (σ : State)
    → ByTurns σ (record {
      session = turned_all σ.session (turns n σ.session);
      store = σ.store;
      events = σ.events ++ turns_told (slot σ.store) (turns n σ.session);
    })
unfolding Turn-rules.turns Turn-rules.turned_all after_turn after_turns
all_turns zero σ = no_turn σ
all_turns (suc n) σ = go (turns_split single n s) (all_turns n (after_turn σ))
  where
    s : Session
    s = σ.session

    after : List Turn → State
    after ts = record { session = turned_all s ts; store = σ.store; events = σ.events ++ turns_told (slot σ.store) ts }

    rest : State
    rest = record {
      session = turned_all (one_turn s) (turns n (one_turn s));
      store = σ.store;
      events = (σ.events ++ turn_told (slot σ.store) (turn s)) ++ turns_told (slot σ.store) (turns n (one_turn s));
    }

    go : Split single n s → ByTurns (after_turn σ) rest
        → ByTurns σ (after (turns (suc n) s))
    go (inl e) r = (0, ap after e.1 ∙ same_state σ)
    go (inr e) r = (
      suc r.0,
      ap after e
          ∙ (λ i. record {
            session = turned_all (one_turn s) (turns n (one_turn s));
            store = σ.store;
            events = sym (append_assoc σ.events (turn_told (slot σ.store) (turn s)) (turns_told (slot σ.store) (turns n (one_turn s)))) i;
          })
          ∙ r.1,
    )

drain_turns : (σ : State) (out : List ℕ) (budget : ℕ) → ByTurns σ (step σ (drain out budget))
unfolding History-rules.step Serve-rules.drain_of
drain_turns σ out budget = go (say n (turns budget s)) refl
  where
    s : Session
    s = σ.session

    n : ℕ
    n = drain_refusal s (length σ.store) (length out) budget

    after : Said (List Turn) → State
    after x =
        let o = outcome x s out (turned_all s) (shown_all s 0 σ.store out) in
        record { session = o.session; store = σ.store; events = σ.events ++ drain_tells o.said o.bytes }

    tells_them : DrainReady single σ.session (length σ.store) (length out) budget → (ts : List Turn) → length ts ≤ budget
        → turns_tell 0 ts (shown_all σ.session 0 σ.store out ts) ≡ turns_told (slot σ.store) ts
    tells_them r ts l =
        told_all (slot σ.store) (shown_all σ.session 0 σ.store out ts) ts 0
        (λ i p e. shown_packet σ.store r.store σ.session ts 0 i p out (omega (arith, r.out, r.most)) e)

    go : (x : Said (List Turn)) → say n (turns budget s) ≡ x → ByTurns σ (after x)
    go (refused m) e = no_turn σ
    go (answered ts) e =
        let a = answer_said n (turns budget s) ts (sym e) in
        let r = drain_ready single s (length σ.store) (length out) budget a.0 in
        let l : length ts ≤ budget = subst (λ (us : List Turn). length us ≤ budget) (sym a.1) (turns_most single budget s) in
        let q = all_turns budget σ in (
          q.0,
          (λ i. record { session = turned_all s ts; store = σ.store; events = σ.events ++ tells_them r ts l i })
              ∙ ap (λ (us : List Turn). record { session = turned_all s us; store = σ.store; events = σ.events ++ turns_told (slot σ.store) us }) a.1
              ∙ q.1,
        )

-- ---- a pass that is refused

pass_turns : (σ : State) → PassRefused σ → ByTurns σ (step σ pass)
unfolding History-rules.step Pass-rules.pass_of
pass_turns σ (m, e) = go (say (pass_refusal s) s.window.start) e
  where
    s : Session
    s = σ.session

    told : Said ℕ → Outcome Session ℕ
    told x = outcome x s [] (λ p. with_window s (skipped s.window)) (λ p. [])

    go : (x : Said ℕ) → (told x).said ≡ refused m
        → ByTurns σ (record { session = (told x).session; store = σ.store; events = σ.events ++ pass_tells (told x).said })
    go (refused k) h = no_turn σ
    go (answered p) h = absurd cc

-- ---- the whole list

-- from σ the offers bs lead to v, with some turns before each and after the last; what is supposed of the list holds
unfoldable pub Played : Bool → State → List (List ℕ) → State → Type 0
Played offered σ [] v = (n : ℕ) × WaitsAfter offered (after_turns n σ) × (v ≡ after_turns n σ)
Played offered σ (b ∷ bs) v =
    (n : ℕ) × WaitsAfter offered (after_turns n σ) × NotTooFar (after_turns n σ) b × Played true (step (after_turns n σ) (offer b)) bs v

played_after : (offered : Bool) (σ u v : State) (bs : List (List ℕ)) → ByTurns σ u → Played offered u bs v → Played offered σ bs v
unfolding Played
played_after offered σ u v [] t q =
    let r = turns_then t.0 q.0 σ in
    let e : after_turns q.0 u ≡ after_turns r.0 σ = ap (after_turns q.0) t.1 ∙ r.1 in
    (r.0, subst (WaitsAfter offered) e q.1, q.2 ∙ e)
played_after offered σ u v (b ∷ bs) t q =
    let r = turns_then t.0 q.0 σ in
    let e : after_turns q.0 u ≡ after_turns r.0 σ = ap (after_turns q.0) t.1 ∙ r.1 in (
      r.0,
      subst (WaitsAfter offered) e q.1,
      subst (λ (x : State). NotTooFar x b) e q.2,
      subst (λ (x : State). Played true (step x (offer b)) bs v) e q.3,
    )

pub played : (cs : List Call) (offered : Bool) (σ : State) → Supposed offered σ cs → Played offered σ (offers cs) (run σ cs)
unfolding Supposed Played offers History-rules.run_by after_turns
played [] offered σ f = (0, f, refl)
played (offer b ∷ cs) offered σ f = (0, f.0, f.1, played cs true (step σ (offer b)) f.2)
played (serve out ∷ cs) offered σ f =
    played_after offered σ (step σ (serve out)) (run (step σ (serve out)) cs) (offers cs) (serve_turns σ out) (played cs offered (step σ (serve out)) f)
played (drain out budget ∷ cs) offered σ f =
    played_after offered σ (step σ (drain out budget)) (run (step σ (drain out budget)) cs) (offers cs) (drain_turns σ out budget)
    (played cs offered (step σ (drain out budget)) f)
played (pass ∷ cs) offered σ f =
    played_after offered σ (step σ pass) (run (step σ pass) cs) (offers cs) (pass_turns σ f.0) (played cs offered (step σ pass) f.1)
