-- What holds where nothing is refused.
use Prim.Native.Nat.{ℕ, ◌≤◌}
use mathlib.Core.Path.{◌≡◌}
use mathlib.Core.Bool.{false}
use borrow.Author.Tests.{eqb-true, eqb-false, leb-true, not-true}
use lib.Dec.{eqb}
use Rattle.octets.proofs.Ladder.{passed, then_zero}
use Rattle.reorder_rules.specs.Buffer.{Buffer}
use Rattle.reorder_rules.specs.Serve.{serve_refusal, drain_refusal}
use Rattle.reorder_rules.specs.Pass.{pass_refusal}

module _ {S : Type 0} (B : Buffer S) where
  pub record ServeReady (s : S) (store_size out_size : ℕ) : Type 0 where
    pub fit : B.unfit s ≡ 0
    pub store : store_size ≡ 34560
    pub out : 1080 ≤ out_size

  pub serve_ready : (s : S) (n m : ℕ) → serve_refusal B s n m ≡ 0 → ServeReady s n m
  unfolding serve_refusal
  serve_ready s n m e =
      let c1 = then_zero _ _ e in
      let c2 = passed _ 26 _ c1.1 in
      let c3 = passed _ 28 _ c2.1 in
      record { fit = c1.0; store = eqb-true _ _ c2.0; out = leb-true _ _ c3.0 }

  pub record DrainReady (s : S) (store_size out_size budget : ℕ) : Type 0 where
    pub fit : B.unfit s ≡ 0
    pub store : store_size ≡ 34560
    pub out : out_size ≡ 34560
    pub most : budget ≤ 32

  pub drain_ready : (s : S) (n m b : ℕ) → drain_refusal B s n m b ≡ 0 → DrainReady s n m b
  unfolding drain_refusal
  drain_ready s n m b e =
      let c1 = then_zero _ _ e in
      let c2 = passed _ 26 _ c1.1 in
      let c3 = passed _ 28 _ c2.1 in
      let c4 = passed _ 30 _ c3.1 in
      record { fit = c1.0; store = eqb-true _ _ c2.0; out = eqb-true _ _ c3.0; most = leb-true _ _ c4.0 }

  pub record PassReady (s : S) : Type 0 where
    pub fit : B.unfit s ≡ 0
    pub before_end : B.next s ≡ 1000000 → ⊥
    pub free : B.held s (B.next s) ≡ false

  pub pass_ready : (s : S) → pass_refusal B s ≡ 0 → PassReady s
  unfolding pass_refusal
  pass_ready s e =
      let c1 = then_zero _ _ e in
      let c2 = passed _ 27 _ c1.1 in
      let c3 = passed _ 25 _ c2.1 in
      record {
        fit = c1.0;
        before_end = eqb-false _ _ (not-true (eqb (B.next s) 1000000) c2.0);
        free = not-true (B.held s (B.next s)) c3.0;
      }
