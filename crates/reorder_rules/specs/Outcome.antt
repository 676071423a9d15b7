-- Document 01, "Refusal numbers": what a call comes to, whatever the session's type S. Each refusal returns its number and no field, and writes
-- nothing; the session stays.
use Rattle.std.specs.Prelude.{ℕ, zero, suc, ◌≡◌, List}
use Rattle.octets.specs.Refusal.{Said, refused, answered}

-- what a call says, the session then, and the bytes then in the buffer that it is lent to write
pub record Outcome (S A : Type 0) : Type 0 where
  pub said : Said A
  pub session : S
  pub bytes : List ℕ

-- by what is said: a refusal leaves the session and the bytes as they were, an answer a leaves `session a` and `bytes a`
abbrev pub outcome : {S A : Type 0} → Said A → S → List ℕ → (A → S) → (A → List ℕ) → Outcome S A
outcome (refused n) s b session bytes = record { said = refused n; session = s; bytes = b }
outcome (answered a) s b session bytes = record { said = answered a; session = session a; bytes = bytes a }

-- a ladder's refusal, and where it refuses nothing what is said next
unfoldable pub refusing : {A : Type 0} → ℕ → Said A → Said A
refusing zero next = next
refusing (suc n) next = refused (suc n)

-- A call that had the session s, and the bytes b to write, comes to o: it says x, and leaves the session t and the bytes c.
pub record ComesTo {S A : Type 0} (o : Outcome S A) (s : S) (b : List ℕ) (x : Said A) (t : S) (c : List ℕ) : Type 0 where
  pub answer : x ≡ o.said
  pub session : t ≡ o.session
  pub bytes : c ≡ o.bytes
  -- "A refusal changes no byte of the buffers lent to it, and the session stays as it came."
  pub refusal : (n : ℕ) → x ≡ refused n → (t ≡ s) × (c ≡ b)
