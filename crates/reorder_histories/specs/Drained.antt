-- How a caller meets what demand 3 supposes: a drain of 32 that isn't refused leaves a buffer that waits, so two consumers who are drained so
-- after each offer have only the answer 25 to look out for.
use Rattle.std.specs.Prelude.{ℕ, ◌≤◌, ◌≡◌, List, [], ◌∷◌, map, length}
use Rattle.octets.specs.Refusal.{answered}
use Rattle.reorder_rules.specs.Sizes.{positions, store_size}
use Rattle.reorder_rules.specs.declared.Turn.{Turn}
use Rattle.reorder_session.specs.Calls.{drain_of}
use Rattle.reorder_histories.specs.History.{Call, offer, serve, drain, pass}
use Rattle.reorder_histories.specs.Histories.{State, step, Waits, NotTooFar, Consumer, opening, at_start, at_end, NothingLost}

-- the budget: as many as can be held
abbrev pub whole_budget : ℕ
whole_budget = positions

-- a packet that is offered, and the output that the drain after it is lent, with whatever that holds
pub record Arrival : Type 0 where
  pub packet : List ℕ
  pub out : List ℕ

abbrev pub packet_of : Arrival → List ℕ
packet_of a = a.packet

-- the packets offered in order, and a drain after each
unfoldable pub drained_after_each : List Arrival → List Call
drained_after_each [] = []
drained_after_each (a ∷ rest) = offer a.packet ∷ drain a.out whole_budget ∷ drained_after_each rest

-- every output has the size that a drain asks for
unfoldable pub Sized : List Arrival → Type 0
Sized [] = Unit {0}
Sized (a ∷ rest) = (length a.out ≡ store_size) × Sized rest

-- no offer of the list is answered 25
unfoldable pub NoneTooFar : State → List Call → Type 0
NoneTooFar σ [] = Unit {0}
NoneTooFar σ (offer b ∷ cs) = NotTooFar σ b × NoneTooFar (step σ (offer b)) cs
NoneTooFar σ (serve out ∷ cs) = NoneTooFar (step σ (serve out)) cs
NoneTooFar σ (drain out budget ∷ cs) = NoneTooFar (step σ (drain out budget)) cs
NoneTooFar σ (pass ∷ cs) = NoneTooFar (step σ pass) cs

-- a consumer that was opened, and was drained after each offer of these packets
pub record DrainedConsumer (c : Consumer) (b : List ℕ) (word : ℕ) (packets : List (List ℕ)) : Type 0 where
  pub accepted : (opening c b word).said ≡ answered 0
  pub arrivals : List Arrival
  pub offered : map packet_of arrivals ≡ packets
  pub sized : Sized arrivals
  pub calls : c.calls ≡ drained_after_each arrivals
  pub near : NoneTooFar (at_start c b word) c.calls

pub record DrainsMeetDemand3 : Type 0 where
  pub drained_waits : (σ : State) (out : List ℕ) (ts : List Turn) → (drain_of σ.session out σ.store whole_budget).said ≡ answered ts
      → Waits (step σ (drain out whole_budget))
  pub lose_nothing : (less more : Consumer) (b : List ℕ) (word : ℕ) (packets : List (List ℕ)) → less.threshold ≤ more.threshold
      → DrainedConsumer less b word packets → DrainedConsumer more b word packets → NothingLost (at_end less b word) (at_end more b word)
