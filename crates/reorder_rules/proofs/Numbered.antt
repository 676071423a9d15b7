-- No refusal is 0: a ladder says its refusals by `say` or `refusing`, which never refuse with 0; an offer's may also be its position's, 21.
use Prim.Native.Nat.{ℕ, zero, suc}
use mathlib.Core.Path.{◌≡◌, refl, sym, ◌∙◌}
use mathlib.Core.Bool.{Bool}
use mathlib.Core.List.{List}
use native.Mathlib.Omega.{arith}
use lib.IntN.{ℤ, nat_abs}
use lib.ListN.{length}
use Rattle.octets.specs.Refusal.{Said, refused, answered, say}
use Rattle.octets.proofs.Ladder.{refusal_said}
use Rattle.packet.specs.declared.PacketFields.{PacketFields}
use Rattle.packet.specs.Fields.{fields_of}
use Rattle.position.specs.Position.{position}
use Rattle.reorder_rules.specs.Outcome.{outcome, refusing}
use Rattle.reorder_rules.specs.Buffer.{Buffer}
use Rattle.reorder_rules.specs.Offer.{position_refusal, admitted, position_of, offer_refusal, offer_due, offer_of}
use Rattle.reorder_rules.specs.Turn.{turn, turns}
use Rattle.reorder_rules.specs.Serve.{serve_refusal, serve_of, drain_refusal, drain_of}
use Rattle.reorder_rules.specs.Pass.{pass_refusal, pass_of}

abbrev pub Numbered : {A : Type 0} → Said A → Type 0
Numbered x = (n : ℕ) → x ≡ refused n → n ≡ 0 → ⊥

pub say_numbered : {A : Type 0} (m : ℕ) (a : A) → Numbered (say m a)
say_numbered m a n e z = let r = refusal_said n m a (sym e) in r.1 (sym r.0 ∙ z)

pub outcome_numbered : {S A : Type 0} (x : Said A) (s : S) (b : List ℕ) (f : A → S) (g : A → List ℕ) → Numbered x → Numbered (outcome x s b f g).said
outcome_numbered (refused m) s b f g h = h
outcome_numbered (answered a) s b f g h = h

refusing_numbered : {A : Type 0} (k : ℕ) (x : Said A) → Numbered x → Numbered (refusing k x)
unfolding refusing
refusing_numbered zero x h = h
refusing_numbered (suc k) x h = λ n e z. let i : suc k ≡ n = cc in absurd (omega arith)

admitted_numbered : (start : ℕ) (held : ℕ → Bool) (y : Said ℤ) → Numbered y → Numbered (admitted start held y)
unfolding admitted
admitted_numbered start held (refused m) h = λ n e z. let i : m ≡ n = cc in h m refl (i ∙ z)
admitted_numbered start held (answered p) h = say_numbered (position_refusal start held p) (nat_abs p)

module _ {S : Type 0} (B : Buffer S) where
  position_numbered : (s : S) (f : PacketFields) → Numbered (position_of B s f)
  unfolding position
  position_numbered s f = say_numbered _ _

  due_numbered : (s : S) (size : ℕ) (b : List ℕ) → Numbered (offer_due B s size b)
  unfolding offer_due
  due_numbered s size b =
      refusing_numbered (offer_refusal B s size b) _
      (admitted_numbered (B.start s) (B.held s) (position_of B s (fields_of b)) (position_numbered s (fields_of b)))

  pub offer_numbered : (s : S) (store b : List ℕ) → Numbered (offer_of B s store b).said
  unfolding offer_of
  offer_numbered s store b = outcome_numbered (offer_due B s (length store) b) s store _ _ (due_numbered s (length store) b)

  pub serve_numbered : (s : S) (out store : List ℕ) → Numbered (serve_of B s out store).said
  unfolding serve_of
  serve_numbered s out store =
      let k = serve_refusal B s (length store) (length out) in outcome_numbered (say k (turn B s)) s out _ _ (say_numbered k (turn B s))

  pub drain_numbered : (s : S) (out store : List ℕ) (budget : ℕ) → Numbered (drain_of B s out store budget).said
  unfolding drain_of
  drain_numbered s out store budget =
      let k = drain_refusal B s (length store) (length out) budget in outcome_numbered (say k (turns B budget s)) s out _ _ (say_numbered k (turns B budget s))

  pub pass_numbered : (s : S) → Numbered (pass_of B s).said
  unfolding pass_of
  pass_numbered s = outcome_numbered (say (pass_refusal B s) (B.next s)) s _ _ _ (say_numbered (pass_refusal B s) (B.next s))
