-- The two refusals that come first, 30 and 27, in a ladder that goes on after them.
use Prim.Native.Nat.{ℕ, zero, suc}
use mathlib.Core.Path.{◌≡◌, refl, sym, ap, ◌∙◌}
use mathlib.Core.Bool.{Bool, true, false, cond, not}
use borrow.Author.Tests.{eqb-true}
use lib.Dec.{eqb}
use Rattle.std.specs.Prelude.{Result, IsErr, IsErrAnd}
use Rattle.octets.specs.Refusal.{refuse◌unless◌else◌, ◌then◌, refusal_in}
use Rattle.octets.proofs.Ladder.{passed, then_pass, then_zero, pass_eq}
use Rattle.refusal.specs.declared.Refusal.{Refusal}
use Rattle.refusal.specs.Number.{number, said}
use Rattle.refusal.proofs.Said.{number_not_0, handed_on}
use Rattle.reorder_session.specs.declared.Session.{Session}
use Rattle.reorder_session.specs.Session.{single, broken, store_refusal}

-- a ladder that ends where another goes on gives its refusal
goes_on : (k : ℕ) (b : Bool) (n next r : ℕ) → r ≡ (k then refuse n unless b else 0) → (r ≡ 0 → ⊥) → r ≡ (k then refuse n unless b else next)
unfolding ◌then◌ refuse◌unless◌else◌
goes_on zero true n next r e ne = absurd (ne e)
goes_on zero false n next r e ne = e
goes_on (suc k) b n next r e ne = e

pub store_passed : (s : Session) (size : ℕ) → store_refusal s size ≡ 0 → (single.unfit s ≡ 0) × (size ≡ 34560)
unfolding store_refusal
store_passed s size e =
    let c = then_zero _ _ e in
    (c.0, eqb-true _ _ (passed _ 26 0 c.1).0)

module _ (s : Session) (size next : ℕ) where
  -- a ladder that begins with the two gives their refusal, and where they refuse nothing what comes next
  abbrev Ladder : ℕ
  Ladder = single.unfit s then refuse 27 unless eqb size 34560 else next

  pub store_pass : (r : ℕ) → store_refusal s size ≡ 0 → r ≡ next → r ≡ Ladder
  store_pass r e q = let c = store_passed s size e in then_pass _ _ r c.0 (pass_eq size 34560 27 next r c.1 q)

  pub store_fail : (r : ℕ) → r ≡ store_refusal s size → (r ≡ 0 → ⊥) → r ≡ Ladder
  unfolding store_refusal
  store_fail r e n = goes_on (single.unfit s) (eqb size 34560) 27 next r e n

  pub store_handed_on : {A : Type 0} (r : Result A Refusal) (e : Refusal) → IsErr r × IsErrAnd r (λ f. f ≡ e) → number e ≡ store_refusal s size → refusal_in (said r) ≡ Ladder
  store_handed_on r e h q =
      let p : refusal_in (said r) ≡ number e = ap refusal_in (handed_on r e h) in
      store_fail (refusal_in (said r)) (p ∙ q) (λ z. number_not_0 e (sym p ∙ z))

-- the same two, read off their tests, for `grind`
two : (a b : Bool) → ((refuse 30 unless not a else 0) then refuse 27 unless b else 0) ≡ cond a 30 (cond b 0 27)
unfolding ◌then◌ refuse◌unless◌else◌
two true b = refl
two false true = refl
two false false = refl

pub store_by : (s : Session) (size : ℕ) → store_refusal s size ≡ cond (broken s) 30 (cond (eqb size 34560) 0 27)
unfolding store_refusal
store_by s size = two (broken s) (eqb size 34560)
