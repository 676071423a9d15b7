-- What the definition of a call gives keeps the call's own promise.
use Prim.Native.Nat.{ℕ, zero, suc, ◌+◌}
use mathlib.Core.Path.{◌≡◌, refl}
use mathlib.Core.List.{List, []}
use native.Mathlib.Omega.{arith}
use lib.ListN.{length}
use Rattle.octets.specs.Refusal.{Said, refused, answered, say}
use Rattle.reorder_rules.specs.Outcome.{outcome}
use Rattle.reorder_rules.specs.Buffer.{Buffer}
use Rattle.reorder_rules.specs.Offer.{offer_due, offer_of}
use Rattle.reorder_rules.specs.Turn.{turn, turned, shown, turns, turned_all, shown_all}
use Rattle.reorder_rules.specs.Serve.{serve_refusal, serve_of, drain_refusal, drain_of}
use Rattle.reorder_rules.specs.Pass.{pass_refusal, pass_of}
use Rattle.reorder_rules.specs.Promises.{count_in, Offers, Serves, Drains, Passes}
use Rattle.reorder_rules.proofs.Said.{left_refused, comes}
use Rattle.reorder_rules.proofs.Turns.{counted_next}

outcome_bytes : {S A : Type 0} (x : Said A) (s : S) (b : List ℕ) (f : A → S) → b ≡ (outcome x s b f (λ p. b)).bytes
outcome_bytes (refused n) s b f = refl
outcome_bytes (answered a) s b f = refl

module _ {S : Type 0} (B : Buffer S) where
  pub offers_itself : (s : S) (store b : List ℕ) → Offers B s store b (offer_of B s store b).said (offer_of B s store b).session (offer_of B s store b).bytes
  unfolding offer_of
  offers_itself s store b = comes (left_refused (offer_due B s (length store) b) s store (B.taken s) (λ p. B.stored s store p b)) refl refl refl

  pub serves_itself : (s : S) (out store : List ℕ)
      → Serves B s out store (serve_of B s out store).said (serve_of B s out store).session (serve_of B s out store).bytes
  unfolding serve_of
  serves_itself s out store =
      comes (left_refused (say (serve_refusal B s (length store) (length out)) (turn B s)) s out (turned B s) (shown B s 0 store out)) refl refl refl

  pub passes_itself : (s : S) → Passes B s (pass_of B s).said (pass_of B s).session
  unfolding pass_of
  passes_itself s =
      let x : Said ℕ = say (pass_refusal B s) (B.next s) in
      comes (left_refused x s [] (λ p. B.missed s) (λ p. [])) refl refl (outcome_bytes x s [] (λ p. B.missed s))

module _ {S : Type 0} (B : Buffer S) (given-next : (s : S) → B.next (B.given s) ≡ B.next s + 1) (missed-next : (s : S) → B.next (B.missed s) ≡ B.next s + 1) where
  count_by : (n budget : ℕ) (s : S) (out store : List ℕ)
      → let o = outcome (say n (turns B budget s)) s out (turned_all B s) (shown_all B s 0 store out) in B.next o.session ≡ B.next s + count_in o.said
  unfolding say
  count_by zero budget s out store = counted_next B given-next missed-next budget s
  count_by (suc n) budget s out store = omega arith

  pub drains_itself : (s : S) (out store : List ℕ) (budget : ℕ)
      → Drains B s out store budget (drain_of B s out store budget).said (drain_of B s out store budget).session (drain_of B s out store budget).bytes
  unfolding drain_of
  drains_itself s out store budget =
      let n = drain_refusal B s (length store) (length out) budget in
      record {
        comes = comes (left_refused (say n (turns B budget s)) s out (turned_all B s) (shown_all B s 0 store out)) refl refl refl;
        count = count_by n budget s out store;
      }
