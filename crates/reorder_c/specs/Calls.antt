-- The calls of the reorder buffer with answers in numbers: each is a call of what its numbers r stand for, and they are no others.
use Rattle.std.specs.Prelude.{ℕ, ◌≡◌, List}
use Rattle.reorder_session.specs.declared.Session.{Session}
use Rattle.reorder_session.specs.Calls.{Offers, Serves, Drains, Passes}
use Rattle.reorder_offer.specs.Opening.{Opens}
use Rattle.reorder_c_answers.specs.declared.Answer.{Answer}
use Rattle.reorder_c_answers.specs.declared.Count.{Count}
use Rattle.reorder_c_answers.specs.Answers.{held_answer, served_answer, passed_answer, position_said, turn_said, turns_said, Tells}

abbrev pub OpensAs : Session → List ℕ → List ℕ → ℕ → ℕ → Answer → Session → List ℕ → Type 0
OpensAs s store b threshold word r t c = Opens s store b threshold word (position_said r) t c × (r ≡ held_answer (position_said r))

abbrev pub OffersAs : Session → List ℕ → List ℕ → Answer → Session → List ℕ → Type 0
OffersAs s store b r t c = Offers s store b (position_said r) t c × (r ≡ held_answer (position_said r))

abbrev pub ServesAs : Session → List ℕ → List ℕ → Answer → Session → List ℕ → Type 0
ServesAs s out store r t c = Serves s out store (turn_said r) t c × (r ≡ served_answer (turn_said r))

-- d are the lent numbers before the drain, e those after it
abbrev pub DrainsAs : Session → List ℕ → List ℕ → ℕ → List ℕ → Count → Session → List ℕ → List ℕ → Type 0
DrainsAs s out store budget d r t c e = Drains s out store budget (turns_said r e) t c × Tells r d e (turns_said r e)

abbrev pub PassesAs : Session → Answer → Session → Type 0
PassesAs s r t = Passes s (position_said r) t × (r ≡ passed_answer (position_said r))
