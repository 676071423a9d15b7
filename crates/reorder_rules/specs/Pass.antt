-- Document 01, "The rack" and "Refusal numbers": pass.
use Rattle.std.specs.Prelude.{ℕ, not, [], eqb}
use Rattle.octets.specs.Refusal.{refuse◌unless◌else◌, ◌then◌, say}
use Rattle.reorder_rules.specs.Sizes.{end_position}
use Rattle.reorder_rules.specs.Outcome.{Outcome, outcome}
use Rattle.reorder_rules.specs.Buffer.{Buffer}

module _ {S : Type 0} (B : Buffer S) where
  -- 30, 28, 26: session broken; pass while next is 1,000,000; pass while next is held
  unfoldable pub pass_refusal : S → ℕ
  pass_refusal s =
      B.unfit s then
      refuse 28 unless not (eqb (B.next s) end_position) else
      refuse 26 unless not (B.held s (B.next s)) else
      0

  -- "where next isn't held, answers Missing next and next grows by one"; a pass is lent no bytes
  unfoldable pub pass_of : S → Outcome S ℕ
  pass_of s = outcome (say (pass_refusal s) (B.next s)) s [] (λ p. B.missed s) (λ p. [])
