-- Document 01, "The rack" and "Refusal numbers": serve and drain.
use Rattle.std.specs.Prelude.{ℕ, List, eqb, leb, length}
use Rattle.octets.specs.Refusal.{refuse◌unless◌else◌, ◌then◌, say}
use Rattle.packet_layout.specs.Layout.{packet_size}
use Rattle.reorder_rules.specs.Sizes.{positions, store_size}
use Rattle.reorder_rules.specs.Outcome.{Outcome, outcome}
use Rattle.reorder_rules.specs.Buffer.{Buffer}
use Rattle.reorder_rules.specs.declared.Turn.{Turn}
use Rattle.reorder_rules.specs.Turn.{turn, turned, shown, turns, turned_all, shown_all}

module _ {S : Type 0} (B : Buffer S) where
  -- 30, 27, 29: session broken; store not 34,560 bytes; output under 1,080
  unfoldable pub serve_refusal : S → ℕ → ℕ → ℕ
  serve_refusal s store_length out_length =
      B.unfit s then
      refuse 27 unless eqb store_length store_size else
      refuse 29 unless leb packet_size out_length else
      0

  -- a serve that gives a packet writes the first 1,080 bytes of its output, and otherwise writes nothing
  unfoldable pub serve_of : S → List ℕ → List ℕ → Outcome S Turn
  serve_of s out store = outcome (say (serve_refusal s (length store) (length out)) (turn B s)) s out (turned B s) (shown B s 0 store out)

  -- 30, 27, 29, 31: session broken; store not 34,560 bytes; output not 34,560; budget over 32
  unfoldable pub drain_refusal : S → ℕ → ℕ → ℕ → ℕ
  drain_refusal s store_length out_length budget =
      B.unfit s then
      refuse 27 unless eqb store_length store_size else
      refuse 29 unless eqb out_length store_size else
      refuse 31 unless leb budget positions else
      0

  -- a drain answers the turns within its budget, and leaves what they leave
  unfoldable pub drain_of : S → List ℕ → List ℕ → ℕ → Outcome S (List Turn)
  drain_of s out store budget =
      outcome (say (drain_refusal s (length store) (length out) budget) (turns B budget s)) s out (turned_all B s) (shown_all B s 0 store out)
