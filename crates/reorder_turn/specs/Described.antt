-- Document 01, "The rack": the descriptions of a drain's answers.
use Rattle.std.specs.Prelude.{◌-◌, cond, eqb, List, ◌++◌, map, length, replicate}
use Rattle.octets.specs.Refusal.{Said, refused, answered}
use Rattle.reorder_rules.specs.Sizes.{positions}
use Rattle.reorder_rules.specs.declared.Turn.{Turn}
use Rattle.reorder_rules.specs.declared.Turn.TheVariants.{Packet, Missing, Waiting}
use Rattle.reorder_turn.specs.declared.Description.{Description}

-- the description of an answer: kind 1 a packet, 2 a missing position; all zeros for none
abbrev pub no_description : Description
no_description = record { kind = 0; position = 0 }

abbrev pub described : Turn → Description
described (Packet p) = record { kind = 1; position = p }
described (Missing p) = record { kind = 2; position = p }
described Waiting = no_description

-- the answer that a description tells
abbrev pub described_by : Description → Turn
described_by d = cond (eqb d.kind 1) (Packet d.position) (cond (eqb d.kind 2) (Missing d.position) Waiting)

-- a drain's answers in its report's places, the i-th in place i; Waiting past their count
unfoldable pub in_places : List Turn → List Turn
in_places ts = ts ++ replicate (positions - length ts) Waiting

-- the i-th answer from 0 is described, and descriptions past the count are all zeros
unfoldable pub described_all : List Turn → List Description
described_all ts = map described ts ++ replicate (positions - length ts) no_description

-- the description of what a serve says; of a refusal, all zeros
abbrev pub description_of : Said Turn → Description
description_of (refused n) = no_description
description_of (answered t) = described t
