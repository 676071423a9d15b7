-- What a call leaves, by what it says.
use Prim.Native.Nat.{ℕ, zero, suc}
use mathlib.Core.Path.{◌≡◌, refl, sym, ap, ◌∙◌}
use mathlib.Core.List.{List}
use Rattle.octets.specs.Refusal.{Said, refused, answered}
use Rattle.reorder_rules.specs.Outcome.{Outcome, outcome, refusing, ComesTo}

-- what is said is said
pub said_is : {S A : Type 0} (x : Said A) (s : S) (b : List ℕ) (f : A → S) (g : A → List ℕ) → (outcome x s b f g).said ≡ x
said_is (refused n) s b f g = refl
said_is (answered a) s b f g = refl

-- what holds of a call's outcome, by what it says
pub outcome_cases : {S A : Type 0} (P : S → List ℕ → Type 0) (x : Said A) (s : S) (b : List ℕ) (f : A → S) (g : A → List ℕ)
    → P s b → ((a : A) → x ≡ answered a → P (f a) (g a)) → P (outcome x s b f g).session (outcome x s b f g).bytes
outcome_cases P (refused n) s b f g h k = h
outcome_cases P (answered a) s b f g h k = k a refl

-- a call that answers has said so, and leaves what its answer does
pub record Left {S A : Type 0} (x : Said A) (s : S) (b : List ℕ) (f : A → S) (g : A → List ℕ) (a : A) : Type 0 where
  pub answer : x ≡ answered a
  pub session : (outcome x s b f g).session ≡ f a
  pub bytes : (outcome x s b f g).bytes ≡ g a

pub left : {S A : Type 0} (x : Said A) (s : S) (b : List ℕ) (f : A → S) (g : A → List ℕ) (a : A) → (outcome x s b f g).said ≡ answered a → Left x s b f g a
left (refused n) s b f g a e = absurd cc
left (answered y) s b f g a e =
    let i : y ≡ a = cc in
    record { answer = e; session = ap f i; bytes = ap g i }

-- and one that refuses leaves what was there
pub left_refused : {S A : Type 0} (x : Said A) (s : S) (b : List ℕ) (f : A → S) (g : A → List ℕ) (n : ℕ) → (outcome x s b f g).said ≡ refused n
    → ((outcome x s b f g).session ≡ s) × ((outcome x s b f g).bytes ≡ b)
left_refused (refused m) s b f g n e = (refl, refl)
left_refused (answered y) s b f g n e = absurd cc

-- ---- what the code gives for a promise

-- a refusal leaves the session s and the bytes b
abbrev pub RefusalLeaves : {S A : Type 0} → Outcome S A → S → List ℕ → Type 0
RefusalLeaves o s b = (n : ℕ) → o.said ≡ refused n → (o.session ≡ s) × (o.bytes ≡ b)

pub comes : {S A : Type 0} {o : Outcome S A} {s t : S} {b c : List ℕ} {x : Said A} → RefusalLeaves o s b → x ≡ o.said → t ≡ o.session → c ≡ o.bytes
    → ComesTo o s b x t c
comes left answer session bytes =
    record {
      answer = answer;
      session = session;
      bytes = bytes;
      refusal = λ n e. (session ∙ (left n (sym answer ∙ e)).0, bytes ∙ (left n (sym answer ∙ e)).1);
    }

module _ {S A : Type 0} (s : S) (b : List ℕ) (f : A → S) (g : A → List ℕ) where
  -- a refusal leaves the session and the bytes as they were
  pub stays : (n : ℕ) (x : Said A) → refused n ≡ x → ComesTo (outcome x s b f g) s b (refused n) s b
  stays n x e =
      comes (left_refused x s b f g) (ap (λ (y : Said A). (outcome y s b f g).said) e)
      (ap (λ (y : Said A). (outcome y s b f g).session) e) (ap (λ (y : Said A). (outcome y s b f g).bytes) e)

  -- an answer leaves what it says
  pub leaves : (a : A) (x : Said A) (s' : S) (b' : List ℕ) → answered a ≡ x → s' ≡ f a → b' ≡ g a → ComesTo (outcome x s b f g) s b (answered a) s' b'
  leaves a x s' b' e p q =
      comes (left_refused x s b f g) (ap (λ (y : Said A). (outcome y s b f g).said) e)
      (p ∙ ap (λ (y : Said A). (outcome y s b f g).session) e) (q ∙ ap (λ (y : Said A). (outcome y s b f g).bytes) e)

-- the same, where what is said, left and written is known by equations
pub comes_by : {S A : Type 0} {o : Outcome S A} {s t u : S} {b c d : List ℕ} {x y : Said A} → ComesTo o s b x t c → y ≡ x → u ≡ t → d ≡ c → ComesTo o s b y u d
comes_by k e f g =
    record {
      answer = e ∙ k.answer;
      session = f ∙ k.session;
      bytes = g ∙ k.bytes;
      refusal = λ n h. let r = k.refusal n (sym e ∙ h) in (f ∙ r.0, g ∙ r.1);
    }

-- a ladder's refusal is said, or what comes next
pub refusing_now : {A : Type 0} (n m : ℕ) (x : Said A) → n ≡ m → (n ≡ 0 → ⊥) → refused n ≡ refusing m x
unfolding refusing
refusing_now zero m x e ne = absurd (ne refl)
refusing_now (suc n) m x e ne = ap (λ (k : ℕ). refusing k x) e

pub refusing_next : {A : Type 0} (m : ℕ) (x y : Said A) → m ≡ 0 → y ≡ x → y ≡ refusing m x
unfolding refusing
refusing_next m x y e q = q ∙ ap (λ (k : ℕ). refusing k x) (sym e)

pub refusing_none : {A : Type 0} (m : ℕ) (x : Said A) (a : A) → refusing m x ≡ answered a → (m ≡ 0) × (x ≡ answered a)
unfolding refusing
refusing_none zero x a e = (refl, e)
refusing_none (suc m) x a e = absurd cc
