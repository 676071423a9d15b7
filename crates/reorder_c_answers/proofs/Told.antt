-- The numbers of an answer stand for what was said, since no refusal is 0.
use Prim.Native.Nat.{ℕ, zero, suc, ◌-◌, ◌≤◌}
use mathlib.Core.Path.{◌≡◌, refl, sym, ap, ◌∙◌, subst}
use mathlib.Core.List.{List, [], ◌∷◌, ◌++◌, map}
use native.Mathlib.Omega.{arith}
use lib.ListN.{length, replicate}
use Rattle.octets.specs.Refusal.{Said, refused, answered, say}
use Rattle.reorder_rules.specs.Outcome.{Outcome, ComesTo}
use Rattle.reorder_rules.specs.declared.Turn.{Turn}
use Rattle.reorder_rules.specs.declared.Turn.TheVariants.{Packet, Missing, Waiting}
use Rattle.reorder_rules.proofs.Said.{comes_by}
use Rattle.reorder_rules.proofs.Numbered.{Numbered}
use Rattle.reorder_turn.specs.Described.{no_description, described, described_all}
use Rattle.reorder_serve.specs.Report.{counted}
use Rattle.reorder_serve.specs.Places.{stored_said}
use Rattle.reorder_c_answers.specs.Listed.{listed, described_in}
use Rattle.reorder_c_answers.proofs.Listed.{listed_append, all_described}
use Rattle.reorder_c_answers.specs.declared.Count.{Count}
use Rattle.reorder_c_answers.specs.Answers.{as_answer, held_answer, served_answer, passed_answer, drained_count, tabled, position_said, turn_of, turn_said, turns_in, turns_said, Tells}

say_refused : {A : Type 0} (n : ℕ) (a : A) → (n ≡ 0 → ⊥) → say n a ≡ refused n
unfolding say
say_refused zero a h = absurd (h refl)
say_refused (suc n) a h = refl

-- ---- one answer

position_said_lem : (turn : ℕ → Turn) → ((p : ℕ) → (described (turn p)).position ≡ p) → (x : Said ℕ) → Numbered x → position_said (as_answer turn x) ≡ x
unfolding say
position_said_lem turn at (refused n) h = say_refused n 0 (h n refl)
position_said_lem turn at (answered p) h = ap answered (at p)

turn_by : (t : Turn) → turn_of (described t).kind (described t).position ≡ t
turn_by (Packet p) = refl
turn_by (Missing p) = refl
turn_by Waiting = refl

turn_said_lem : (x : Said Turn) → Numbered x → turn_said (served_answer x) ≡ x
unfolding say
turn_said_lem (refused n) h = say_refused n _ (h n refl)
turn_said_lem (answered t) h = ap answered (turn_by t)

-- what a call promises of what is said it promises of the numbers, where they read back
module _ {S A R : Type 0} (read : R → Said A) (form : Said A → R) (reads : (x : Said A) → Numbered x → read (form x) ≡ x) where
  told : {o : Outcome S A} {s t : S} {b c : List ℕ} (x : Said A) (r : R) → Numbered o.said → ComesTo o s b x t c → r ≡ form x
      → ComesTo o s b (read r) t c × (r ≡ form (read r))
  told x r numbered p e =
      let q : read r ≡ x = ap read e ∙ reads x (λ n h. numbered n (sym p.answer ∙ h)) in
      (comes_by p q refl refl, e ∙ ap form (sym q))

pub held_told : {S : Type 0} {o : Outcome S ℕ} {s t : S} {b c : List ℕ} (x : Said ℕ) (r : _) → Numbered o.said → ComesTo o s b x t c → r ≡ held_answer x
    → ComesTo o s b (position_said r) t c × (r ≡ held_answer (position_said r))
held_told = told position_said held_answer (position_said_lem Packet (λ p. refl))

pub passed_told : {S : Type 0} {o : Outcome S ℕ} {s t : S} {b c : List ℕ} (x : Said ℕ) (r : _) → Numbered o.said → ComesTo o s b x t c → r ≡ passed_answer x
    → ComesTo o s b (position_said r) t c × (r ≡ passed_answer (position_said r))
passed_told = told position_said passed_answer (position_said_lem Missing (λ p. refl))

pub served_told : {S : Type 0} {o : Outcome S Turn} {s t : S} {b c : List ℕ} (x : Said Turn) (r : _) → Numbered o.said → ComesTo o s b x t c → r ≡ served_answer x
    → ComesTo o s b (turn_said r) t c × (r ≡ served_answer (turn_said r))
served_told = told turn_said served_answer turn_said_lem

-- ---- a drain

turns_in_lem : (ts : List Turn) (more : List ℕ) → turns_in (length ts) (listed (map described ts) ++ more) ≡ ts
turns_in_lem [] more = refl
turns_in_lem (t ∷ ts) more = λ i. turn_by t i ∷ turns_in_lem ts more i

turns_listed : (ts : List Turn) → turns_in (length ts) (listed (described_all ts)) ≡ ts
unfolding described_all
turns_listed ts =
    ap (turns_in (length ts)) (listed_append (map described ts) (replicate (32 - length ts) no_description)) ∙ turns_in_lem ts _

turns_said_lem : (x : Said (List Turn)) (d : List ℕ) → Numbered x → turns_said (drained_count (counted x)) (tabled x d) ≡ x
unfolding say
turns_said_lem (refused n) d h = say_refused n _ (h n refl)
turns_said_lem (answered ts) d h = ap answered (turns_listed ts)

-- the lent numbers stay on a refusal, and have the descriptions otherwise
pub numbers_stay : (x : Said (List Turn)) (d : List ℕ) (n : ℕ) → counted x ≡ refused n → d ≡ tabled x d
numbers_stay (refused m) d n e = refl
numbers_stay (answered ts) d n e = let z : ◌≡◌ {A = ℕ} 0 1 = cc in absurd (omega arith)

pub numbers_filled : (x : Said (List Turn)) (d : List ℕ) (ts : List Turn) → x ≡ answered ts → length ts ≤ 32
    → stored_said described_in (replicate 64 0) x ≡ tabled x d
numbers_filled x d ts e h =
    ap (stored_said described_in (replicate 64 0)) e ∙ all_described ts h ∙ ap (λ (y : Said (List Turn)). tabled y d) (sym e)

-- what holds of what is said holds of what the numbers stand for
pub drain_told : (P : Said (List Turn) → Type 0) (x : Said (List Turn)) (r : Count) (d e : List ℕ) → Numbered x → P x → Tells r d e x
    → P (turns_said r e) × Tells r d e (turns_said r e)
drain_told P x r d e h p t =
    let q : turns_said r e ≡ x = (λ i. turns_said (t.count i) (t.numbers i)) ∙ turns_said_lem x d h in
    (subst P (sym q) p, subst (Tells r d e) (sym q) t)
