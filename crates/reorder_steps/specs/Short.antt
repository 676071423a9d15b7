-- A short history in code: an opening with the packet first, an offer of b and a drain of 32 into out, each handed what the last one left.
use Rattle.std.specs.Prelude.{ℕ, ◌≡◌, List, [], ◌∷◌, ◌++◌}
use Rattle.octets.specs.Refusal.{Said}
use Rattle.reorder_rules.specs.Outcome.{Outcome}
use Rattle.reorder_rules.specs.Sizes.{positions}
use Rattle.reorder_rules.specs.declared.Turn.{Turn}
use Rattle.reorder_session.specs.declared.Session.{Session}
use Rattle.reorder_session.specs.Session.{single}
use Rattle.reorder_session.specs.Calls.{offer_of, drain_of}
use Rattle.reorder_offer.specs.Opening.{open_of, no_session}
use Rattle.reorder_histories.specs.History.{offer, drain, offer_tells, drain_tells, MadeBy, OpenMade, CallMade}
use Rattle.reorder_histories.specs.Histories.{State}

-- what the three come to
abbrev pub first_call : List ℕ → List ℕ → ℕ → ℕ → Outcome Session ℕ
first_call store first threshold word = open_of no_session store first threshold word

abbrev pub second_call : List ℕ → List ℕ → List ℕ → ℕ → ℕ → Outcome Session ℕ
second_call store first b threshold word = let o = first_call store first threshold word in offer_of o.session o.bytes b

abbrev pub third_call : List ℕ → List ℕ → List ℕ → List ℕ → ℕ → ℕ → Outcome Session (List Turn)
third_call store out first b threshold word = let o = second_call store first b threshold word in drain_of o.session out o.bytes positions

-- the last says x; t, c and o are the session, the store and the output then
pub record Short (store out first b : List ℕ) (threshold word : ℕ) (x : Said (List Turn)) (t : Session) (c o : List ℕ) : Type 0 where
  pub said : x ≡ (third_call store out first b threshold word).said
  pub session : t ≡ (third_call store out first b threshold word).session
  pub stored : c ≡ (second_call store first b threshold word).bytes
  pub output : o ≡ (third_call store out first b threshold word).bytes
  -- the three calls kept their promises, and the events are those that they tell
  pub opening : State
  pub opened : OpenMade (first_call store first threshold word) no_session store first opening
  pub called : MadeBy (CallMade single) opening (offer b ∷ drain out positions ∷ [])
      (record {
        session = t;
        store = c;
        events = (offer_tells (first_call store first threshold word).said first ++ offer_tells (second_call store first b threshold word).said b) ++ drain_tells x o;
      })
