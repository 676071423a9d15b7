-- The reader's refusal handed on.
use Prim.Native.Nat.{ℕ}
use mathlib.Core.Path.{◌≡◌, sym, ap, ◌∙◌}
use mathlib.Core.List.{List}
use Rattle.std.specs.Prelude.{Result, Err}
use Rattle.octets.proofs.Ladder.{refusal_said}
use Rattle.refusal.specs.declared.Refusal.{Refusal}
use Rattle.refusal.specs.Number.{number, said}
use Rattle.refusal.proofs.Said.{number_not_0}
use Rattle.packet_check.specs.Refusal.{read_refusal}
use Rattle.packet.specs.declared.PacketFields.{PacketFields}
use Rattle.packet.specs.Fields.{fields_of}
use Rattle.packet.specs.Read.{read_due}

-- its number is the ladder's, and not 0
pub handed_on : (b : List ℕ) (word : ℕ) (r : Result PacketFields Refusal) (e : Refusal) → said r ≡ read_due b word → r ≡ Err e
    → (number e ≡ read_refusal b word) × (number e ≡ 0 → ⊥)
handed_on b word r e p q = ((refusal_said (number e) (read_refusal b word) (fields_of b) (ap said (sym q) ∙ p)).0, number_not_0 e)
