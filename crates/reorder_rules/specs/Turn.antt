-- Document 01, "The rack": what serving answers, a turn, and what it leaves; several turns one after another.
use Rattle.std.specs.Prelude.{ℕ, zero, suc, ◌+◌, ◌*◌, Bool, true, false, cond, List, [], ◌∷◌}
use Rattle.octets.specs.Bytes.{part, put}
use Rattle.packet_layout.specs.Layout.{packet_size}
use Rattle.reorder_rules.specs.Buffer.{Buffer}
use Rattle.reorder_rules.specs.declared.Turn.{Turn}
use Rattle.reorder_rules.specs.declared.Turn.TheVariants.{Packet, Missing, Waiting}

-- By what is held, and a consumer's next and threshold H: if next is held, its packet; otherwise, if some held position is at least next + H,
-- Missing next; otherwise Waiting.
abbrev pub turn_by : (ℕ → Bool) → (ℕ → Bool) → ℕ → ℕ → Turn
turn_by held some next threshold = cond (held next) (Packet next) (cond (some (next + threshold)) (Missing next) Waiting)

abbrev pub is_waiting : Turn → Bool
is_waiting (Packet p) = false
is_waiting (Missing p) = false
is_waiting Waiting = true

-- the bytes of the i-th answer in an output: the 1,080 at 1,080 i
abbrev pub bytes_at : List ℕ → ℕ → List ℕ
bytes_at out i = part out (packet_size * i) packet_size

module _ {S : Type 0} (B : Buffer S) where
  unfoldable pub turn : S → Turn
  turn s = turn_by (B.held s) (B.some s) (B.next s) (B.threshold s)

  -- the session then: a packet given is freed, and next grows by one; so it does where next is missing; Waiting changes nothing
  abbrev pub turned : S → Turn → S
  turned s (Packet p) = B.given s
  turned s (Missing p) = B.missed s
  turned s Waiting = s

  -- the output then: a packet's bytes stand at 1,080 i
  abbrev pub shown : S → ℕ → List ℕ → List ℕ → Turn → List ℕ
  shown s i store out (Packet p) = put out (packet_size * i) (B.bytes s store p)
  shown s i store out (Missing p) = out
  shown s i store out Waiting = out

  -- serving until Waiting or the budget is spent: the answers, in order; a closing Waiting is not one of them
  unfoldable pub turns : ℕ → S → List Turn
  turns zero s = []
  turns (suc budget) s =
      elim (turn s) [
        | Packet p ↦ Packet p ∷ turns budget (turned s (Packet p))
        | Missing p ↦ Missing p ∷ turns budget (turned s (Missing p))
        | Waiting ↦ []
      ]

  -- the session after them
  unfoldable pub turned_all : S → List Turn → S
  turned_all s [] = s
  turned_all s (t ∷ ts) = turned_all (turned s t) ts

  -- the output after them: the bytes of the one numbered i stand at 1,080 i
  unfoldable pub shown_all : S → ℕ → List ℕ → List ℕ → List Turn → List ℕ
  shown_all s i store out [] = out
  shown_all s i store out (t ∷ ts) = shown_all (turned s t) (suc i) store (shown s i store out t) ts
