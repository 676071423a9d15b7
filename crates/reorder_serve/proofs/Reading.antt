-- A report that tells what is said reads back as it.
use mathlib.Core.Path.{◌≡◌, refl, sym, ap, ◌∙◌, subst}
use Prim.Native.Nat.{◌≤◌}
use mathlib.Core.List.{List}
use lib.ListN.{length, replicate, set}
use Rattle.std.proofs.Math.Seq.{take-append_seam}
use Rattle.octets.specs.Refusal.{Said, refused, answered}
use Rattle.reorder_rules.specs.declared.Turn.{Turn}
use Rattle.reorder_rules.specs.declared.Turn.TheVariants.{Waiting}
use Rattle.reorder_turn.specs.Described.{in_places}
use Rattle.reorder_turn.proofs.Turns.{in_places_last}
use Rattle.reorder_serve.specs.declared.Report.{Report}
use Rattle.reorder_serve.specs.Report.{first_of, report_said, counted, places, Reports}
use Rattle.reorder_serve.specs.Places.{stored_said}
use Rattle.reorder_serve.proofs.Stored.{stored_fills}

read_answers : (x : Said (List Turn)) → first_of (places x) (counted x) ≡ x
unfolding in_places
read_answers (refused n) = refl
read_answers (answered ts) = ap answered (take-append_seam ts _)

pub reads_back : (r : Report) (x : Said (List Turn)) → Reports r x → report_said r ≡ x
reads_back r x e = (λ i. first_of (e.turns i) (e.count i)) ∙ read_answers x

-- so what holds of what is said holds of what the report stands for
pub reported : (P : Said (List Turn) → Type 0) (r : Report) (x : Said (List Turn)) → P x → Reports r x → P (report_said r) × Reports r (report_said r)
reported P r x p e = (subst P (sym (reads_back r x e)) p, subst (Reports r) (sym (reads_back r x e)) e)

-- the answers, stored in 32 places of Waiting, are the report's
pub reported_places : (x : Said (List Turn)) → ((ts : List Turn) → x ≡ answered ts → length ts ≤ 32)
    → stored_said (λ ts i t. set ts i t) (replicate 32 Waiting) x ≡ places x
unfolding in_places
reported_places (refused n) h = refl
reported_places (answered ts) h = stored_fills (λ ts i t. set ts i t) 32 in_places in_places_last ts (h ts refl)
