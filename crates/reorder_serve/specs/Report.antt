-- Document 01, "The rack": what a drain reports of its answers.
use Rattle.std.specs.Prelude.{ℕ, ◌≡◌, List, length, replicate, take}
use Rattle.octets.specs.Refusal.{Said, refused, answered}
use Rattle.refusal.specs.Number.{said}
use Rattle.reorder_rules.specs.declared.Turn.{Turn}
use Rattle.reorder_rules.specs.declared.Turn.TheVariants.{Waiting}
use Rattle.reorder_rules.specs.Sizes.{positions}
use Rattle.reorder_session.specs.declared.Session.{Session}
use Rattle.reorder_session.specs.Calls.{Drains}
use Rattle.reorder_turn.specs.Described.{in_places}
use Rattle.reorder_serve.specs.declared.Report.{Report}

-- what a report stands for: its number, or as many answers as it counts
abbrev pub first_of : List Turn → Said ℕ → Said (List Turn)
first_of ts (refused n) = refused n
first_of ts (answered n) = answered (take n ts)

abbrev pub report_said : Report → Said (List Turn)
report_said r = first_of r.turns (said r.answer)

-- the count of what is said, and the 32 places
abbrev pub counted : Said (List Turn) → Said ℕ
counted (refused n) = refused n
counted (answered ts) = answered (length ts)

abbrev pub places : Said (List Turn) → List Turn
places (refused n) = replicate positions Waiting
places (answered ts) = in_places ts

-- the report tells x and nothing more: "The i-th answer from 0 is described … A closing Waiting is neither counted nor described, and descriptions
-- past the count are all zeros." Waiting is what all zeros describe.
pub record Reports (r : Report) (x : Said (List Turn)) : Type 0 where
  pub count : said r.answer ≡ counted x
  pub turns : r.turns ≡ places x

-- what a drain that gives a report promises: it is a drain of what the report stands for
abbrev pub DrainsReport : Session → List ℕ → List ℕ → ℕ → Report → Session → List ℕ → Type 0
DrainsReport s out store budget r t c = Drains s out store budget (report_said r) t c × Reports r (report_said r)
