-- Pieces of 1,080 bytes in the store and in the output.
use Prim.Native.Nat.{ℕ, zero, suc, ◌+◌, ◌*◌, ◌%◌, ◌≤◌, ◌<◌}
use mathlib.Core.Path.{◌≡◌, refl, sym, ap, ◌∙◌}
use mathlib.Core.List.{List, [], ◌∷◌}
use native.Mathlib.Decide.{dec_lt}
use native.Mathlib.Omega.{arith}
use lib.ListN.{length}
use Rattle.reorder_rules.specs.Turn as Turn-rules
use Rattle.octets.specs.Bytes.{part, put}
use Rattle.octets.proofs.Codec.{part_length}
use Rattle.octets.proofs.Store.{put_there, put_before, put_after}
use Rattle.reorder_session.specs.declared.Session.{Session}
use Rattle.reorder_session.specs.Session.{slot, single}
use Rattle.reorder_rules.specs.declared.Turn.{Turn}
use Rattle.reorder_rules.specs.declared.Turn.TheVariants.{Packet, Missing, Waiting}
use Rattle.reorder_rules.specs.Turn.{bytes_at}
use Rattle.reorder_session.specs.Calls.{turned, shown, shown_all}
use Rattle.reorder_rules.proofs.Turns.{shown_length}
use Rattle.reorder_laws.specs.Serves.{answer_at}

-- a piece stored is there, and every other piece as it was
pub piece_same : (s x : List ℕ) (k : ℕ) → length x ≡ 1080 → 1080 * k + 1080 ≤ length s → bytes_at (put s (1080 * k) x) k ≡ x
piece_same s x k e h = ap (part (put s (1080 * k) x) (1080 * k)) (sym e) ∙ put_there s x (1080 * k) (omega arith)

pub piece_other : (s x : List ℕ) (k j : ℕ) → length x ≡ 1080 → 1080 * k + 1080 ≤ length s → (k ≡ j → ⊥) → bytes_at (put s (1080 * k) x) j ≡ bytes_at s j
piece_other s x k j e h n = go (dec_lt j k)
  where
    go : Dec (j < k) → bytes_at (put s (1080 * k) x) j ≡ bytes_at s j
    go (yes l) = put_before s x (1080 * k) (1080 * j) 1080 (omega arith) (omega arith)
    go (no m) = put_after s x (1080 * k) (1080 * j) 1080 (omega arith) (omega (arith, n))

pub slot_length : (store : List ℕ) (p : ℕ) → length store ≡ 34560 → length (slot store p) ≡ 1080
slot_length store p e = part_length store (1080 * (p % 32)) 1080 (omega arith)

-- ---- the output of several turns

module _ (store : List ℕ) (size : length store ≡ 34560) where
  -- one turn leaves the other pieces
  shown_elsewhere : (s : Session) (k j : ℕ) (out : List ℕ) (t : Turn) → 1080 * k + 1080 ≤ length out → (k ≡ j → ⊥) → bytes_at (shown s k store out t) j ≡ bytes_at out j
  shown_elsewhere s k j out (Packet p) h n = piece_other out (slot store p) k j (slot_length store p size) h n
  shown_elsewhere s k j out (Missing p) h n = refl
  shown_elsewhere s k j out Waiting h n = refl

  -- turns numbered from k on leave the pieces before
  shown_later : (s : Session) (ts : List Turn) (k j : ℕ) (out : List ℕ) → 1080 * (k + length ts) ≤ length out → j < k → bytes_at (shown_all s k store out ts) j ≡ bytes_at out j
  unfolding Turn-rules.shown_all
  shown_later s [] k j out h l = refl
  shown_later s (t ∷ ts) k j out h l =
      shown_later (turned s t) ts (suc k) j (shown s k store out t) (omega (arith, shown_length single s k store out t)) (omega arith)
      ∙ shown_elsewhere s k j out t (omega arith) (λ e. omega arith)

  -- the answer numbered i of turns numbered from k on: a packet's bytes stand at its piece, else that piece is as it was
  pub shown_packet : (s : Session) (ts : List Turn) (k i p : ℕ) (out : List ℕ) → 1080 * (k + length ts) ≤ length out → answer_at ts i ≡ Packet p
      → bytes_at (shown_all s k store out ts) (k + i) ≡ slot store p
  unfolding Turn-rules.shown_all
  shown_packet s [] k i p out h e = absurd cc
  shown_packet s (t ∷ ts) k zero p out h e =
      let q : k + 0 ≡ k = omega arith in
      ap (bytes_at (shown_all (turned s t) (suc k) store (shown s k store out t) ts)) q
      ∙ shown_later (turned s t) ts (suc k) k (shown s k store out t) (omega (arith, shown_length single s k store out t)) (omega arith)
      ∙ ap (λ (u : Turn). bytes_at (shown s k store out u) k) e
      ∙ piece_same out (slot store p) k (slot_length store p size) (omega arith)
  shown_packet s (t ∷ ts) k (suc i) p out h e =
      let q : k + suc i ≡ suc k + i = omega arith in
      ap (bytes_at (shown_all (turned s t) (suc k) store (shown s k store out t) ts)) q
      ∙ shown_packet (turned s t) ts (suc k) i p (shown s k store out t) (omega (arith, shown_length single s k store out t)) e

  pub shown_other : (s : Session) (ts : List Turn) (k i : ℕ) (out : List ℕ) → 1080 * (k + length ts) ≤ length out → ((p : ℕ) → answer_at ts i ≡ Packet p → ⊥)
      → bytes_at (shown_all s k store out ts) (k + i) ≡ bytes_at out (k + i)
  unfolding Turn-rules.shown_all
  shown_other s [] k i out h n = refl
  shown_other s (t ∷ ts) k zero out h n =
      let q : k + 0 ≡ k = omega arith in
      ap (bytes_at (shown_all (turned s t) (suc k) store (shown s k store out t) ts)) q
      ∙ shown_later (turned s t) ts (suc k) k (shown s k store out t) (omega (arith, shown_length single s k store out t)) (omega arith)
      ∙ idle t n
      ∙ ap (bytes_at out) (sym q)
    where
      idle : (u : Turn) → ((p : ℕ) → u ≡ Packet p → ⊥) → bytes_at (shown s k store out u) k ≡ bytes_at out k
      idle (Packet p) m = absurd (m p refl)
      idle (Missing p) m = refl
      idle Waiting m = refl
  shown_other s (t ∷ ts) k (suc i) out h n =
      let q : k + suc i ≡ suc k + i = omega arith in
      ap (bytes_at (shown_all (turned s t) (suc k) store (shown s k store out t) ts)) q
      ∙ shown_other (turned s t) ts (suc k) i (shown s k store out t) (omega (arith, shown_length single s k store out t)) n
      ∙ shown_elsewhere s k (suc k + i) out t (omega arith) (λ e. omega arith)
      ∙ ap (bytes_at out) (sym q)
