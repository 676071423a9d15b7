-- Laws of one turn of serving, and of several.
use Prim.Native.Nat.{ℕ, zero, suc, ◌+◌, ◌≤◌}
use mathlib.Core.Path.{◌≡◌, refl, sym, ap, ◌∙◌, subst}
use mathlib.Core.Bool.{true, false}
use mathlib.Core.List.{List, [], ◌∷◌, ◌++◌}
use mathlib.Core.Logic.{◌⊎◌, inl, inr}
use native.Mathlib.Omega.{arith}
use lib.ListN.{length}
use Rattle.octets.proofs.Store.{put_length}
use Rattle.reorder_rules.specs.Buffer.{Buffer}
use Rattle.reorder_rules.specs.declared.Turn.{Turn}
use Rattle.reorder_rules.specs.declared.Turn.TheVariants.{Packet, Missing, Waiting}
use Rattle.reorder_rules.specs.Turn.{turn, turned, shown, turns, turned_all, shown_all}

-- ---- one turn, by what is held

module _ {S : Type 0} (B : Buffer S) (s : S) where
  pub turn_packet : B.held s (B.next s) ≡ true → turn B s ≡ Packet (B.next s)
  unfolding turn
  turn_packet e = rw e refl

  pub turn_missing : B.held s (B.next s) ≡ false → B.some s (B.next s + B.threshold s) ≡ true → turn B s ≡ Missing (B.next s)
  unfolding turn
  turn_missing e f = rw (e, f) refl

  pub turn_waiting : B.held s (B.next s) ≡ false → B.some s (B.next s + B.threshold s) ≡ false → turn B s ≡ Waiting
  unfolding turn
  turn_waiting e f = rw (e, f) refl

-- ---- several turns

-- a turn that isn't Waiting
abbrev pub Moves : Turn → Type 0
Moves (Packet p) = Unit {0}
Moves (Missing p) = Unit {0}
Moves Waiting = ⊥

pub moves_or : (t : Turn) → (t ≡ Waiting) ⊎ Moves t
moves_or (Packet p) = inr tt
moves_or (Missing p) = inr tt
moves_or Waiting = inl refl

module _ {S : Type 0} (B : Buffer S) where
  pub turns_stop : (b : ℕ) (s : S) → turn B s ≡ Waiting → turns B b s ≡ []
  unfolding turns
  turns_stop zero s e = refl
  turns_stop (suc b) s e = rw (e, turns) refl

  pub turns_more : (b : ℕ) (s : S) (t : Turn) → turn B s ≡ t → Moves t → turns B (suc b) s ≡ t ∷ turns B b (turned B s t)
  unfolding turns
  turns_more b s (Packet p) e n = rw (e, turns) refl
  turns_more b s (Missing p) e n = rw (e, turns) refl
  turns_more b s Waiting e n = absurd n

  -- the turns stop, or one comes before the others
  abbrev pub Split : ℕ → S → Type 0
  Split b s = ((turn B s ≡ Waiting) × (turns B (suc b) s ≡ [])) ⊎ (turns B (suc b) s ≡ turn B s ∷ turns B b (turned B s (turn B s)))

  pub turns_split : (b : ℕ) (s : S) → Split b s
  turns_split b s = go (moves_or (turn B s))
    where
      go : (turn B s ≡ Waiting) ⊎ Moves (turn B s) → Split b s
      go (inl e) = inl (e, turns_stop (suc b) s e)
      go (inr n) = inr (turns_more b s (turn B s) refl n)

  pub turns_most : (b : ℕ) (s : S) → length (turns B b s) ≤ b
  unfolding turns
  turns_most zero s = omega arith
  turns_most (suc b) s = go (turns_split b s) (turns_most b (turned B s (turn B s)))
    where
      go : Split b s → length (turns B b (turned B s (turn B s))) ≤ b → length (turns B (suc b) s) ≤ suc b
      go (inl e) r = subst (λ (ts : List Turn). length ts ≤ suc b) (sym e.1) (omega arith)
      go (inr e) r = subst (λ (ts : List Turn). length ts ≤ suc b) (sym e) (omega arith)

  pub shown_length : (s : S) (i : ℕ) (store out : List ℕ) (t : Turn) → length (shown B s i store out t) ≡ length out
  shown_length s i store out (Packet p) = put_length out _ _
  shown_length s i store out (Missing p) = refl
  shown_length s i store out Waiting = refl

  -- one turn after others
  pub turned_last : (s : S) (ts : List Turn) (t : Turn) → turned_all B s (ts ++ (t ∷ [])) ≡ turned B (turned_all B s ts) t
  unfolding turned_all
  turned_last s [] t = refl
  turned_last s (u ∷ ts) t = turned_last (turned B s u) ts t

  pub shown_last : (s : S) (i : ℕ) (store out : List ℕ) (ts : List Turn) (t : Turn)
      → shown_all B s i store out (ts ++ (t ∷ [])) ≡ shown B (turned_all B s ts) (i + length ts) store (shown_all B s i store out ts) t
  unfolding turned_all shown_all
  shown_last s i store out [] t = let e : i ≡ i + 0 = omega arith in ap (λ (k : ℕ). shown B s k store out t) e
  shown_last s i store out (u ∷ ts) t =
      let e : suc i + length ts ≡ i + suc (length ts) = omega arith in
      let v : S = turned B s u in
      shown_last v (suc i) store (shown B s i store out u) ts t
      ∙ ap (λ (k : ℕ). shown B (turned_all B v ts) k store (shown_all B v (suc i) store (shown B s i store out u) ts) t) e

-- ---- where each turn but Waiting moves next on by one

module _ {S : Type 0} (B : Buffer S) (given-next : (s : S) → B.next (B.given s) ≡ B.next s + 1) (missed-next : (s : S) → B.next (B.missed s) ≡ B.next s + 1) where
  pub one_more : (s : S) (t : Turn) → Moves t → B.next (turned B s t) ≡ B.next s + 1
  one_more s (Packet p) n = given-next s
  one_more s (Missing p) n = missed-next s
  one_more s Waiting n = absurd n

  -- the count of the answers is how far next has moved
  pub counted_next : (b : ℕ) (s : S) → B.next (turned_all B s (turns B b s)) ≡ B.next s + length (turns B b s)
  unfolding turns turned_all
  counted_next zero s = omega arith
  counted_next (suc b) s = go (moves_or (turn B s)) (counted_next b (turned B s (turn B s)))
    where
      Moved : List Turn → Type 0
      Moved ts = B.next (turned_all B s ts) ≡ B.next s + length ts

      go : (turn B s ≡ Waiting) ⊎ Moves (turn B s)
          → B.next (turned_all B (turned B s (turn B s)) (turns B b (turned B s (turn B s)))) ≡ B.next (turned B s (turn B s)) + length (turns B b (turned B s (turn B s)))
          → Moved (turns B (suc b) s)
      go (inl e) r = subst Moved (sym (turns_stop B (suc b) s e)) (omega arith)
      go (inr n) r = subst Moved (sym (turns_more B b s (turn B s) refl n)) (omega (arith, r, one_more s (turn B s) n))
