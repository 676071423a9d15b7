-- Document 01, "The lists of demand 3": lists of calls and what they come to, whatever the session's type S and whatever makes the calls.
use Rattle.std.specs.Prelude.{ℕ, suc, ◌≡◌, ◌⊎◌}
use mathlib.Core.List.{List, [], ◌∷◌, ◌++◌, Memᴰ}
use Rattle.octets.specs.Refusal.{Said, refused, answered}
use Rattle.reorder_rules.specs.Outcome.{Outcome, ComesTo}
use Rattle.reorder_rules.specs.Buffer.{Buffer}
use Rattle.reorder_rules.specs.Offer.{offer_of}
use Rattle.reorder_rules.specs.declared.Turn.{Turn}
use Rattle.reorder_rules.specs.declared.Turn.TheVariants.{Packet, Missing, Waiting}
use Rattle.reorder_rules.specs.Turn.{bytes_at}
use Rattle.reorder_rules.specs.Serve.{serve_of, drain_of}
use Rattle.reorder_rules.specs.Pass.{pass_of}
use Rattle.reorder_rules.specs.Promises.{Offers, Serves, Drains, Passes}

-- ---- the calls

-- "From its opening each rack is given a list of calls: offers, serves and drains, refused ones included, and passes that are refused."
-- An offer of a packet's bytes; a serve into an output; a drain into an output, with a budget; a pass. The bytes are any, of any length.
pub data Call : Type 0 where
  offer : List ℕ → Call
  serve : List ℕ → Call
  drain : List ℕ → ℕ → Call
  pass : Call

-- the packets offered, in order
unfoldable pub offers : List Call → List (List ℕ)
offers [] = []
offers (offer b ∷ cs) = b ∷ offers cs
offers (serve out ∷ cs) = offers cs
offers (drain out budget ∷ cs) = offers cs
offers (pass ∷ cs) = offers cs

-- ---- what the calls' answers tell

-- a packet with these bytes was taken at a position; one was given with a position; a position was called missing
pub data Event : Type 0 where
  took : ℕ → List ℕ → Event
  gave : ℕ → List ℕ → Event
  called_missing : ℕ → Event

-- "the opening (p = 0) or an offer answered with p took it"
abbrev pub offer_tells : Said ℕ → List ℕ → List Event
offer_tells (refused n) b = []
offer_tells (answered p) b = took p b ∷ []

-- "A packet is served at p when a serve or drain gives it with p; its bytes are those in the output. Position p is called missing by Missing p."
-- The answers from the one numbered i on; its bytes stand at 1,080 i of the output.
unfoldable pub turns_tell : ℕ → List Turn → List ℕ → List Event
turns_tell i [] out = []
turns_tell i (Packet p ∷ ts) out = gave p (bytes_at out i) ∷ turns_tell (suc i) ts out
turns_tell i (Missing p ∷ ts) out = called_missing p ∷ turns_tell (suc i) ts out
turns_tell i (Waiting ∷ ts) out = turns_tell (suc i) ts out

abbrev pub serve_tells : Said Turn → List ℕ → List Event
serve_tells (refused n) out = []
serve_tells (answered t) out = turns_tell 0 (t ∷ []) out

abbrev pub drain_tells : Said (List Turn) → List ℕ → List Event
drain_tells (refused n) out = []
drain_tells (answered ts) out = turns_tell 0 ts out

abbrev pub pass_tells : Said ℕ → List Event
pass_tells (refused n) = []
pass_tells (answered p) = called_missing p ∷ []

-- ---- a list of calls

-- a session and a store as the last call returned or left them, and the events so far, in order
pub record State (S : Type 0) : Type 0 where
  pub session : S
  pub store : List ℕ
  pub events : List Event

-- the state after the opening o with the packet b
abbrev pub start : {S : Type 0} → Outcome S ℕ → List ℕ → State S
start o b = record { session = o.session; store = o.bytes; events = offer_tells o.said b }

-- call after call, whatever a call is and whatever it goes from
unfoldable pub run_by : {X C : Type 0} → (X → C → X) → X → List C → X
run_by step σ [] = σ
run_by step σ (c ∷ cs) = run_by step (step σ c) cs

-- "Each call gets the session and store that the last one returned or left; nobody else writes them meanwhile."
module _ {S : Type 0} (B : Buffer S) where
  unfoldable pub step : State S → Call → State S
  step σ (offer b) =
      let o = offer_of B σ.session σ.store b in
      record { session = o.session; store = o.bytes; events = σ.events ++ offer_tells o.said b }
  step σ (serve out) =
      let o = serve_of B σ.session out σ.store in
      record { session = o.session; store = σ.store; events = σ.events ++ serve_tells o.said o.bytes }
  step σ (drain out budget) =
      let o = drain_of B σ.session out σ.store budget in
      record { session = o.session; store = σ.store; events = σ.events ++ drain_tells o.said o.bytes }
  step σ pass =
      let o = pass_of B σ.session in
      record { session = o.session; store = σ.store; events = σ.events ++ pass_tells o.said }

  abbrev pub run : State S → List Call → State S
  run = run_by step

-- ---- what a list comes to

abbrev pub Served : {S : Type 0} → State S → ℕ → List ℕ → Type 0
Served σ p b = Memᴰ (gave p b) σ.events

abbrev pub CalledMissing : {S : Type 0} → State S → ℕ → Type 0
CalledMissing σ p = Memᴰ (called_missing p) σ.events

-- "A packet is still held at p when the opening (p = 0) or an offer answered with p took it, and no serve or drain has given p since;
-- its bytes are p's 1,080 in the store." They are those that were taken.
pub record StillHeld {S : Type 0} (B : Buffer S) (σ : State S) (p : ℕ) (b : List ℕ) : Type 0 where
  pub earlier : List Event
  pub since : List Event
  pub taken : σ.events ≡ earlier ++ took p b ∷ since
  pub not_given : (c : List ℕ) → Memᴰ (gave p c) since → ⊥
  pub bytes : B.bytes σ.session σ.store p ≡ b

pub record NothingLost {S : Type 0} (B : Buffer S) (less more : State S) : Type 0 where
  -- "Each packet that the less patient rack served is served by the more patient one, or still held there, at the same place with the same bytes."
  pub served : (p : ℕ) (b : List ℕ) → Served less p b → Served more p b ⊎ StillHeld B more p b
  -- "And each place that the more patient one called missing the other has called missing too."
  pub missing_too : (p : ℕ) → CalledMissing more p → CalledMissing less p

-- ---- a history: the calls as they were made

-- each call, by whatever makes it, goes from the state that the last one left
unfoldable pub MadeBy : {X C : Type 0} → (X → C → X → Type 0) → X → List C → X → Type 0
MadeBy calls σ [] τ = τ ≡ σ
MadeBy {X} calls σ (c ∷ cs) τ = (υ : X) × calls σ c υ × MadeBy calls υ cs τ

-- An opening with the packet b that comes to o, of the session s and a store, and keeps its promise: what it left, and what its answer tells, is τ.
pub record OpenMade {S : Type 0} (o : Outcome S ℕ) (s : S) (store b : List ℕ) (τ : State S) : Type 0 where
  pub said : Said ℕ
  pub promised : ComesTo o s store said τ.session τ.store
  pub told : τ.events ≡ offer_tells said b

-- an opening of the packet b that comes to o, leaves t and c, and whose answer tells these events, is the start of a list
abbrev pub IsStart : {S : Type 0} → Outcome S ℕ → List ℕ → S → List ℕ → List Event → Type 0
IsStart o b t c told = (record { session = t; store = c; events = told }) ≡ start o b

-- A call from σ to τ that keeps its promise, of what it said, and whose events are told by that; `output` is what a serve or a drain leaves in
-- its output. By value, over a lent session and in numbers the promise is the same.
module _ {S : Type 0} (B : Buffer S) where
  pub record OfferMade (σ : State S) (b : List ℕ) (τ : State S) : Type 0 where
    pub said : Said ℕ
    pub promised : Offers B σ.session σ.store b said τ.session τ.store
    pub told : τ.events ≡ σ.events ++ offer_tells said b

  pub record ServeMade (σ : State S) (out : List ℕ) (τ : State S) : Type 0 where
    pub said : Said Turn
    pub output : List ℕ
    pub promised : Serves B σ.session out σ.store said τ.session output
    pub same_store : τ.store ≡ σ.store
    pub told : τ.events ≡ σ.events ++ serve_tells said output

  pub record DrainMade (σ : State S) (out : List ℕ) (budget : ℕ) (τ : State S) : Type 0 where
    pub said : Said (List Turn)
    pub output : List ℕ
    pub promised : Drains B σ.session out σ.store budget said τ.session output
    pub same_store : τ.store ≡ σ.store
    pub told : τ.events ≡ σ.events ++ drain_tells said output

  pub record PassMade (σ τ : State S) : Type 0 where
    pub said : Said ℕ
    pub promised : Passes B σ.session said τ.session
    pub same_store : τ.store ≡ σ.store
    pub told : τ.events ≡ σ.events ++ pass_tells said

  abbrev pub CallMade : State S → Call → State S → Type 0
  CallMade σ (offer b) τ = OfferMade σ b τ
  CallMade σ (serve out) τ = ServeMade σ out τ
  CallMade σ (drain out budget) τ = DrainMade σ out budget τ
  CallMade σ pass τ = PassMade σ τ

  -- a call from the session s and the store b that leaves t and c, and whose answer tells these events, is the step of the call x
  abbrev pub IsStep : S → List ℕ → Call → S → List ℕ → List Event → Type 0
  IsStep s b x t c told =
      (events : List Event) → (record { session = t; store = c; events = events ++ told }) ≡ step B (record { session = s; store = b; events = events }) x

  -- a pass is lent no store: any stays as it was
  abbrev pub IsPassStep : S → S → List Event → Type 0
  IsPassStep s t told = (b : List ℕ) → IsStep s b pass t b told
