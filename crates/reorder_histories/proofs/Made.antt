-- Calls that keep their promises are steps of the lists of demand 3, so a history of them is a run.
use Prim.Native.Nat.{ℕ}
use mathlib.Core.Path.{◌≡◌, refl, ap, ◌∙◌}
use mathlib.Core.List.{List, [], ◌∷◌, ◌++◌}
use Rattle.octets.specs.Refusal.{Said}
use Rattle.reorder_rules.specs.Outcome.{Outcome, ComesTo}
use Rattle.reorder_rules.specs.Buffer.{Buffer}
use Rattle.reorder_rules.specs.Offer.{offer_of}
use Rattle.reorder_rules.specs.declared.Turn.{Turn}
use Rattle.reorder_rules.specs.Serve.{serve_of, drain_of}
use Rattle.reorder_rules.specs.Pass.{pass_of}
use Rattle.reorder_rules.specs.Promises.{Offers, Serves, Drains, Passes}
use Rattle.reorder_rules.proofs.Keeps.{offers_itself, serves_itself, drains_itself, passes_itself}
use Rattle.reorder_session.specs.declared.Session.{Session}
use Rattle.reorder_session.specs.Session.{single}
use Rattle.reorder_offer.proofs.Opening.{opens_itself}
use Rattle.reorder_histories.specs.History.{Call, offer, serve, drain, pass, offer_tells, serve_tells, drain_tells, pass_tells, State, start, step, run_by, run, MadeBy, CallMade, IsStep, IsPassStep, OpenMade, IsStart}
use Rattle.reorder_histories.specs.Histories.{Consumer, opening, at_start, at_end, HigherThresholdLosesNothing}
use Rattle.reorder_histories.specs.Made.{ConsumerMade, HistoriesLoseNothing}

-- states with the same parts are the same
is_state : {S : Type 0} {σ τ : State S} → σ.session ≡ τ.session → σ.store ≡ τ.store → σ.events ≡ τ.events → σ ≡ τ
is_state e f g = λ i. record { session = e i; store = f i; events = g i }

-- ---- what one call promises is a step

module _ {S : Type 0} (B : Buffer S) where
  pub offer_step : {s t : S} {store c : List ℕ} {x : Said ℕ} (b : List ℕ) → Offers B s store b x t c → IsStep B s store (offer b) t c (offer_tells x b)
  unfolding step
  offer_step b p events = λ i. record { session = p.session i; store = p.bytes i; events = events ++ offer_tells (p.answer i) b }

  pub serve_step : {s t : S} {out store c : List ℕ} {x : Said Turn} → Serves B s out store x t c → IsStep B s store (serve out) t store (serve_tells x c)
  unfolding step
  serve_step {store = store} p events = λ i. record { session = p.session i; store = store; events = events ++ serve_tells (p.answer i) (p.bytes i) }

  pub drain_step : {s t : S} {out store c : List ℕ} {budget : ℕ} {x : Said (List Turn)} → Drains B s out store budget x t c
      → IsStep B s store (drain out budget) t store (drain_tells x c)
  unfolding step
  drain_step {store = store} p events =
      let q = p.comes in
      λ i. record { session = q.session i; store = store; events = events ++ drain_tells (q.answer i) (q.bytes i) }

  pub pass_step : {s t : S} {x : Said ℕ} → Passes B s x t → IsPassStep B s t (pass_tells x)
  unfolding step
  pass_step p store events = λ i. record { session = p.session i; store = store; events = events ++ pass_tells (p.answer i) }

  -- ---- so is a call as it was made

  made_step : (σ τ : State S) (c : Call) → CallMade B σ c τ → τ ≡ step B σ c
  made_step σ τ (offer b) m = is_state refl refl m.told ∙ offer_step b m.promised σ.events
  made_step σ τ (serve out) m = is_state refl m.same_store m.told ∙ serve_step m.promised σ.events
  made_step σ τ (drain out budget) m = is_state refl m.same_store m.told ∙ drain_step m.promised σ.events
  made_step σ τ pass m = is_state refl m.same_store m.told ∙ pass_step m.promised σ.store σ.events

-- what an opening promises is a start
pub open_start : {S : Type 0} (o : Outcome S ℕ) {s t : S} {store c : List ℕ} {x : Said ℕ} (b : List ℕ) → ComesTo o s store x t c
    → IsStart o b t c (offer_tells x b)
open_start o b p = λ i. record { session = p.session i; store = p.bytes i; events = offer_tells (p.answer i) b }

made_start : {S : Type 0} (o : Outcome S ℕ) (s : S) (store b : List ℕ) (τ : State S) → OpenMade o s store b τ → τ ≡ start o b
made_start o s store b τ m = is_state refl refl m.told ∙ open_start o b m.promised

-- ---- histories, whatever makes the calls

module _ {X C : Type 0} (by : X → C → X) (calls : X → C → X → Type 0) where
  pub made_runs : ((σ τ : X) (c : C) → calls σ c τ → τ ≡ by σ c) → (σ τ : X) (cs : List C) → MadeBy calls σ cs τ → τ ≡ run_by by σ cs
  unfolding MadeBy run_by
  made_runs is_step σ τ [] e = e
  made_runs is_step σ τ (c ∷ cs) (υ, d, m) = made_runs is_step υ τ cs m ∙ ap (λ (x : X). run_by by x cs) (is_step σ υ c d)

  pub made_holds : ((σ : X) (c : C) → calls σ c (by σ c)) → (σ : X) (cs : List C) → MadeBy calls σ cs (run_by by σ cs)
  unfolding MadeBy run_by
  made_holds holds σ [] = refl
  made_holds holds σ (c ∷ cs) = (by σ c, holds σ c, made_holds holds (by σ c) cs)

-- ---- the reorder buffer of one consumer

step_made : (σ : State Session) (c : Call) → CallMade single σ c (step single σ c)
unfolding step
step_made σ (offer b) = record { said = (offer_of single σ.session σ.store b).said; promised = offers_itself single σ.session σ.store b; told = refl }
step_made σ (serve out) =
    let o = serve_of single σ.session out σ.store in
    record { said = o.said; output = o.bytes; promised = serves_itself single σ.session out σ.store; same_store = refl; told = refl }
step_made σ (drain out budget) =
    let o = drain_of single σ.session out σ.store budget in
    record {
      said = o.said;
      output = o.bytes;
      promised = drains_itself single (λ s. refl) (λ s. refl) σ.session out σ.store budget;
      same_store = refl;
      told = refl;
    }
step_made σ pass = record { said = (pass_of single σ.session).said; promised = passes_itself single σ.session; same_store = refl; told = refl }

start_made : (c : Consumer) (b : List ℕ) (word : ℕ) → OpenMade (opening c b word) c.before c.store b (at_start c b word)
start_made c b word =
    record { said = (opening c b word).said; promised = opens_itself c.before c.store b c.threshold word; told = refl }

comes_to_end : (c : Consumer) (b : List ℕ) (word : ℕ) (τ : State Session) → ConsumerMade c b word τ → τ ≡ at_end c b word
comes_to_end c b word τ (σ, o, m) =
    made_runs (step single) (CallMade single) (made_step single) σ τ c.calls m ∙ ap (λ (x : State Session). run single x c.calls) (made_start (opening c b word) c.before c.store b σ o)

pub histories_lose_nothing : HigherThresholdLosesNothing → HistoriesLoseNothing
histories_lose_nothing h =
    record {
      can_hold = λ c b word.
          (at_start c b word, start_made c b word, made_holds (step single) (CallMade single) step_made (at_start c b word) c.calls);
      is_start = made_start;
      is_step = made_step single;
      are_runs = made_runs (step single) (CallMade single) (made_step single);
      lose_nothing = λ less more b word σ τ o m n. rw (comes_to_end less b word σ m, comes_to_end more b word τ n) (h less more b word o);
    }
