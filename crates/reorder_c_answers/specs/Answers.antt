-- The answers of the reorder buffer's calls in structs of numbers, for callers in languages that have no such enums: how each is made of what is
-- said, and how it is read back.
use Rattle.std.specs.Prelude.{ℕ, zero, suc, ◌≡◌, List, [], ◌∷◌}
use Rattle.octets.specs.Refusal.{Said, refused, answered, say}
use Rattle.reorder_rules.specs.declared.Turn.{Turn}
use Rattle.reorder_rules.specs.declared.Turn.TheVariants.{Packet, Missing}
use Rattle.reorder_turn.specs.Described.{described, described_by, described_all}
use Rattle.reorder_serve.specs.Report.{counted}
use Rattle.reorder_c_answers.specs.Listed.{listed}
use Rattle.reorder_c_answers.specs.declared.Answer.{Answer}
use Rattle.reorder_c_answers.specs.declared.Count.{Count}

-- ---- what is said, as numbers

-- a refusal is its number and zeros; an answer is 0, and its kind and position as a drain describes them: 1 a packet, 2 a missing position, 0 Waiting
abbrev pub refused_answer : ℕ → Answer
refused_answer n = record { refusal = n; kind = 0; position = 0 }

abbrev pub turn_answer : Turn → Answer
turn_answer t = record { refusal = 0; kind = (described t).kind; position = (described t).position }

abbrev pub as_answer : {A : Type 0} → (A → Turn) → Said A → Answer
as_answer turn (refused n) = refused_answer n
as_answer turn (answered a) = turn_answer (turn a)

-- of an opening and an offer, which hold a packet; of a serve; and of a pass, which calls a position missing
abbrev pub held_answer : Said ℕ → Answer
held_answer = as_answer Packet

abbrev pub served_answer : Said Turn → Answer
served_answer = as_answer (λ t. t)

abbrev pub passed_answer : Said ℕ → Answer
passed_answer = as_answer Missing

-- of a drain: a refusal is its number and 0; an answer is 0 and the count
abbrev pub drained_count : Said ℕ → Count
drained_count (refused n) = record { refusal = n; count = 0 }
drained_count (answered k) = record { refusal = 0; count = k }

-- the 64 lent numbers after a drain: as they were on a refusal; else the 32 descriptions
abbrev pub tabled : Said (List Turn) → List ℕ → List ℕ
tabled (refused n) old = old
tabled (answered ts) old = listed (described_all ts)

-- ---- what the numbers stand for

-- of an opening, an offer or a pass; of a serve, where a kind other than 1 and 2 is read as Waiting
abbrev pub position_said : Answer → Said ℕ
position_said r = say r.refusal r.position

abbrev pub turn_of : ℕ → ℕ → Turn
turn_of kind position = described_by (record { kind = kind; position = position })

abbrev pub turn_said : Answer → Said Turn
turn_said r = say r.refusal (turn_of r.kind r.position)

-- of a drain: as many answers as it counts, each by two of the lent numbers
abbrev pub turns_in : ℕ → List ℕ → List Turn
turns_in zero e = []
turns_in (suc n) [] = []
turns_in (suc n) (kind ∷ []) = []
turns_in (suc n) (kind ∷ position ∷ e) = turn_of kind position ∷ turns_in n e

abbrev pub turns_said : Count → List ℕ → Said (List Turn)
turns_said r e = say r.refusal (turns_in r.count e)

-- the count r, and the lent numbers e where d stood, tell x and nothing more
pub record Tells (r : Count) (d e : List ℕ) (x : Said (List Turn)) : Type 0 where
  pub count : r ≡ drained_count (counted x)
  pub numbers : e ≡ tabled x d
