-- Document 01's calls of the reorder buffer of one consumer: the rules of `reorder_rules` at its session.
use Rattle.std.specs.Prelude.{ℕ, List, ℤ}
use Rattle.octets.specs.Refusal.{Said}
use Rattle.packet.specs.declared.PacketFields.{PacketFields}
use Rattle.reorder_rules.specs.Outcome.{Outcome}
use Rattle.reorder_rules.specs.Offer as Offer
use Rattle.reorder_rules.specs.Turn as Turn-rules
use Rattle.reorder_rules.specs.declared.Turn.{Turn}
use Rattle.reorder_rules.specs.Serve as Serve
use Rattle.reorder_rules.specs.Pass as Pass
use Rattle.reorder_rules.specs.Promises as Promises
use Rattle.reorder_session.specs.declared.Session.{Session}
use Rattle.reorder_session.specs.Session.{single}

-- ---- an offer

abbrev pub position_of : Session → PacketFields → Said ℤ
position_of = Offer.position_of single

abbrev pub offer_refusal : Session → ℕ → List ℕ → ℕ
offer_refusal = Offer.offer_refusal single

abbrev pub offer_due : Session → ℕ → List ℕ → Said ℕ
offer_due = Offer.offer_due single

abbrev pub offer_of : Session → List ℕ → List ℕ → Outcome Session ℕ
offer_of = Offer.offer_of single

abbrev pub Offers : Session → List ℕ → List ℕ → Said ℕ → Session → List ℕ → Type 0
Offers = Promises.Offers single

-- ---- a serve

abbrev pub turn : Session → Turn
turn = Turn-rules.turn single

abbrev pub turned : Session → Turn → Session
turned = Turn-rules.turned single

abbrev pub shown : Session → ℕ → List ℕ → List ℕ → Turn → List ℕ
shown = Turn-rules.shown single

abbrev pub serve_refusal : Session → ℕ → ℕ → ℕ
serve_refusal = Serve.serve_refusal single

abbrev pub serve_of : Session → List ℕ → List ℕ → Outcome Session Turn
serve_of = Serve.serve_of single

abbrev pub Serves : Session → List ℕ → List ℕ → Said Turn → Session → List ℕ → Type 0
Serves = Promises.Serves single

-- ---- a drain

abbrev pub turns : ℕ → Session → List Turn
turns = Turn-rules.turns single

abbrev pub turned_all : Session → List Turn → Session
turned_all = Turn-rules.turned_all single

abbrev pub shown_all : Session → ℕ → List ℕ → List ℕ → List Turn → List ℕ
shown_all = Turn-rules.shown_all single

abbrev pub drain_refusal : Session → ℕ → ℕ → ℕ → ℕ
drain_refusal = Serve.drain_refusal single

abbrev pub drain_of : Session → List ℕ → List ℕ → ℕ → Outcome Session (List Turn)
drain_of = Serve.drain_of single

abbrev pub Drains : Session → List ℕ → List ℕ → ℕ → Said (List Turn) → Session → List ℕ → Type 0
Drains = Promises.Drains single

-- ---- a pass

abbrev pub pass_refusal : Session → ℕ
pass_refusal = Pass.pass_refusal single

abbrev pub pass_of : Session → Outcome Session ℕ
pass_of = Pass.pass_of single

abbrev pub Passes : Session → Said ℕ → Session → Type 0
Passes = Promises.Passes single
