-- Document 01, "The rack" and "Refusal numbers": what an offer answers, and what it leaves.
use Rattle.std.specs.Prelude.{ℕ, ◌+◌, Bool, not, List, eqb, ℤ, pos, nat_abs, length}
use Rattle.std.specs.Int.Signed.{le_z}
use Rattle.octets.specs.Refusal.{refuse◌unless◌else◌, ◌then◌, Said, refused, answered, say}
use Rattle.packet_check.specs.Refusal.{read_refusal}
use Rattle.packet.specs.declared.PacketFields.{PacketFields}
use Rattle.packet.specs.Fields.{fields_of}
use Rattle.position.specs.Position.{position, published_tolerance}
use Rattle.reorder_rules.specs.Sizes.{store_size, last_position}
use Rattle.reorder_rules.specs.Outcome.{Outcome, outcome, refusing}
use Rattle.reorder_rules.specs.Buffer.{Buffer}

-- 22: position over 999,999. 23, 24, 25: position below next; already held; over next + 31. With one consumer the window starts at next
unfoldable pub position_refusal : ℕ → (ℕ → Bool) → ℤ → ℕ
position_refusal start held p =
    refuse 22 unless le_z p (pos last_position) else
    refuse 23 unless le_z (pos start) p else
    refuse 24 unless not (held (nat_abs p)) else
    refuse 25 unless le_z p (pos (start + 31)) else
    0

-- where a packet goes whose position is worked out, or for which none fits (21)
unfoldable pub admitted : ℕ → (ℕ → Bool) → Said ℤ → Said ℕ
admitted start held (refused n) = refused n
admitted start held (answered p) = say (position_refusal start held p) (nat_abs p)

module _ {S : Type 0} (B : Buffer S) where
  -- the position of a packet of these fields: its clock is the coarse time
  abbrev pub position_of : S → PacketFields → Said ℤ
  position_of s f = position (B.anchor s) f.count f.coarse_time published_tolerance

  -- 30, 27: session broken; store, of this size, not 34,560 bytes. Then the reader's 1 to 10
  unfoldable pub offer_refusal : S → ℕ → List ℕ → ℕ
  offer_refusal s size b =
      B.unfit s then
      refuse 27 unless eqb size store_size else
      read_refusal b (B.word s)

  -- then 21 to 25, else the position
  unfoldable pub offer_due : S → ℕ → List ℕ → Said ℕ
  offer_due s size b = refusing (offer_refusal s size b) (admitted (B.start s) (B.held s) (position_of s (fields_of b)))

  -- "holds the packet at p where next ≤ p ≤ next + 31 and p is free, and answers p"
  unfoldable pub offer_of : S → List ℕ → List ℕ → Outcome S ℕ
  offer_of s store b = outcome (offer_due s (length store) b) s store (B.taken s) (λ p. B.stored s store p b)
