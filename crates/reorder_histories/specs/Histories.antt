-- Document 01, "The lists of demand 3", and demand 3: the statement, with 01's sentences beside the clauses that say them.
-- 01's rack is the reorder buffer, its patience the threshold, and a place is a position. The calls and their lists are in `History`.
use Rattle.std.specs.Prelude.{ℕ, ◌≤◌, ◌≡◌, Bool, true, false, List, [], ◌∷◌, length}
use Rattle.octets.specs.Refusal.{refused, answered}
use Rattle.packet_layout.specs.Layout.{packet_size}
use Rattle.reorder_rules.specs.Outcome.{Outcome}
use Rattle.reorder_rules.specs.declared.Turn.TheVariants.{Waiting}
use Rattle.reorder_session.specs.declared.Session.{Session}
use Rattle.reorder_session.specs.Session.{single}
use Rattle.reorder_session.specs.Calls.{offer_of, serve_of, pass_of}
use Rattle.reorder_offer.specs.Opening.{open_of}
use Rattle.reorder_histories.specs.History as History-rules
use Rattle.reorder_histories.specs.History.{Call, offer, serve, drain, pass, offers, start}

-- ---- the lists of a reorder buffer of one consumer

abbrev pub State : Type 0
State = History-rules.State Session

abbrev pub step : State → Call → State
step = History-rules.step single

abbrev pub run : State → List Call → State
run = History-rules.run single

-- ---- what is supposed of one list

-- "until the rack waits: until a serve with room for its answer would answer Waiting"
pub record Waits (σ : State) : Type 0 where
  pub out : List ℕ
  pub room : packet_size ≤ length out
  pub answers : (serve_of σ.session out σ.store).said ≡ answered Waiting

-- "After each offer, serves and drains follow until the rack waits … Before the first offer there may be some or none."
-- So the buffer waits wherever the next offer or the end comes after an offer; `offered` says that there has been one.
abbrev pub WaitsAfter : Bool → State → Type 0
WaitsAfter true σ = Waits σ
WaitsAfter false σ = Unit {0}

-- "Too far ahead is 25; no offer in either list gets that answer."
abbrev pub NotTooFar : State → List ℕ → Type 0
NotTooFar σ b = (offer_of σ.session σ.store b).said ≡ refused 25 → ⊥

-- "passes that are refused"
abbrev pub PassRefused : State → Type 0
PassRefused σ = (n : ℕ) × ((pass_of σ.session).said ≡ refused n)

-- all of it, from σ on
unfoldable pub Supposed : Bool → State → List Call → Type 0
Supposed offered σ [] = WaitsAfter offered σ
Supposed offered σ (offer b ∷ cs) = WaitsAfter offered σ × NotTooFar σ b × Supposed true (step σ (offer b)) cs
Supposed offered σ (serve out ∷ cs) = Supposed offered (step σ (serve out)) cs
Supposed offered σ (drain out budget ∷ cs) = Supposed offered (step σ (drain out budget)) cs
Supposed offered σ (pass ∷ cs) = PassRefused σ × Supposed offered (step σ pass) cs

-- ---- two consumers

-- a consumer's threshold, the store lent to its opening, with what that held, and its list of calls; `before` is the session that a refused opening would leave
pub record Consumer : Type 0 where
  pub before : Session
  pub store : List ℕ
  pub threshold : ℕ
  pub calls : List Call

-- its opening with the packet b and the sum at a word, the state then, and the state after its calls
abbrev pub opening : Consumer → List ℕ → ℕ → Outcome Session ℕ
opening c b word = open_of c.before c.store b c.threshold word

abbrev pub at_start : Consumer → List ℕ → ℕ → State
at_start c b word = start (opening c b word) b

abbrev pub at_end : Consumer → List ℕ → ℕ → State
at_end c b word = run (at_start c b word) c.calls

-- less is the one with the lower threshold, more the one with the higher
pub record OpenedAlike (less more : Consumer) (b : List ℕ) (word : ℕ) : Type 0 where
  -- "Both openings are accepted, with the same packet and sum's place, each with a store of its own, whatever that held."
  pub less_accepted : (opening less b word).said ≡ answered 0
  pub more_accepted : (opening more b word).said ≡ answered 0
  -- "Patiences may be equal; either rack is then the less patient."
  pub thresholds : less.threshold ≤ more.threshold
  -- "Both lists offer the same packets, of any bytes and length, in the same order; their other calls may differ."
  pub same_offers : offers less.calls ≡ offers more.calls
  pub less_list : Supposed false (at_start less b word) less.calls
  pub more_list : Supposed false (at_start more b word) more.calls

-- ---- what then holds at the end

abbrev pub StillHeld : State → ℕ → List ℕ → Type 0
StillHeld = History-rules.StillHeld single

abbrev pub NothingLost : State → State → Type 0
NothingLost = History-rules.NothingLost single

-- "Demand 3 is one claim about the two whole lists, not one for each call."
abbrev pub HigherThresholdLosesNothing : Type 0
HigherThresholdLosesNothing =
    (less more : Consumer) (b : List ℕ) (word : ℕ) → OpenedAlike less more b word → NothingLost (at_end less b word) (at_end more b word)
