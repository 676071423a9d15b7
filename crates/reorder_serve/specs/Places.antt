-- Document 01, "The rack": a drain's answers, stored in places as they come, the i-th from 0 in place i.
use Rattle.std.specs.Prelude.{ℕ, suc, ◌≡◌, List, [], ◌∷◌}
use Rattle.octets.specs.Refusal.{Said, refused, answered}
use Rattle.reorder_rules.specs.declared.Turn.{Turn}
use Rattle.reorder_session.specs.declared.Session.{Session}
use Rattle.reorder_session.specs.Calls.{drain_of, Drains}
use Rattle.reorder_serve.specs.Report.{counted}

-- the places after these answers, the first of them in place i; `stored` is what storing one leaves
unfoldable pub stored_all : {P : Type 0} → (P → ℕ → Turn → P) → P → ℕ → List Turn → P
stored_all stored places i [] = places
stored_all stored places i (t ∷ ts) = stored_all stored (stored places i t) (suc i) ts

-- the places after a drain that says so: as they were on a refusal
abbrev pub stored_said : {P : Type 0} → (P → ℕ → Turn → P) → P → Said (List Turn) → P
stored_said stored places (refused n) = places
stored_said stored places (answered ts) = stored_all stored places 0 ts

-- what a drain that is lent places promises, of the count r and of the places before and after it
pub record DrainsInto {P : Type 0} (stored : P → ℕ → Turn → P) (s : Session) (out store : List ℕ) (budget : ℕ) (before : P)
    (r : Said ℕ) (t : Session) (c : List ℕ) (after : P) : Type 0 where
  pub drains : Drains s out store budget (drain_of s out store budget).said t c
  pub count : r ≡ counted (drain_of s out store budget).said
  pub places : after ≡ stored_said stored before (drain_of s out store budget).said
