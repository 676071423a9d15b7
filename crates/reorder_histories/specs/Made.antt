-- Demand 3 for histories of calls that keep their promises, whatever makes them: by value, over a lent session, in numbers.
use Rattle.std.specs.Prelude.{ℕ, ◌≡◌, List}
use Rattle.reorder_rules.specs.Outcome.{Outcome}
use Rattle.reorder_session.specs.declared.Session.{Session}
use Rattle.reorder_session.specs.Session.{single}
use Rattle.reorder_histories.specs.History.{Call, start, MadeBy, OpenMade, CallMade}
use Rattle.reorder_histories.specs.Histories.{State, step, run, Consumer, opening, at_end, OpenedAlike, NothingLost}

-- a consumer whose opening with the packet b, and then whose calls, came to τ
abbrev pub ConsumerMade : Consumer → List ℕ → ℕ → State → Type 0
ConsumerMade c b word τ = (σ : State) × OpenMade (opening c b word) c.before c.store b σ × MadeBy (CallMade single) σ c.calls τ

pub record HistoriesLoseNothing : Type 0 where
  -- the promises of any opening and of any list of calls can all hold
  pub can_hold : (c : Consumer) (b : List ℕ) (word : ℕ) → ConsumerMade c b word (at_end c b word)
  -- an opening is the start, and each call a step, of the lists of demand 3
  pub is_start : (o : Outcome Session ℕ) (s : Session) (store b : List ℕ) (τ : State) → OpenMade o s store b τ → τ ≡ start o b
  pub is_step : (σ τ : State) (c : Call) → CallMade single σ c τ → τ ≡ step σ c
  pub are_runs : (σ τ : State) (cs : List Call) → MadeBy (CallMade single) σ cs τ → τ ≡ run σ cs
  -- demand 3 for what two histories of such calls came to
  pub lose_nothing : (less more : Consumer) (b : List ℕ) (word : ℕ) (σ τ : State) → OpenedAlike less more b word
      → ConsumerMade less b word σ → ConsumerMade more b word τ → NothingLost σ τ
