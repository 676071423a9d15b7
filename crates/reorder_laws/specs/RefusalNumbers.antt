-- A refusal has a number, so that 0 for the refusal says that nothing was refused.
use Rattle.std.specs.Prelude.{ℕ, ◌≡◌, List}
use Rattle.octets.specs.Refusal.{refused}
use Rattle.reorder_session.specs.declared.Session.{Session}
use Rattle.reorder_offer.specs.Opening.{open_of}
use Rattle.reorder_session.specs.Calls.{offer_of, serve_of, drain_of, pass_of}

pub record RefusalsHaveNumbers : Type 0 where
  pub opens : (s : Session) (store b : List ℕ) (threshold word n : ℕ) → (open_of s store b threshold word).said ≡ refused n → n ≡ 0 → ⊥
  pub offers : (s : Session) (store b : List ℕ) (n : ℕ) → (offer_of s store b).said ≡ refused n → n ≡ 0 → ⊥
  pub serves : (s : Session) (out store : List ℕ) (n : ℕ) → (serve_of s out store).said ≡ refused n → n ≡ 0 → ⊥
  pub drains : (s : Session) (out store : List ℕ) (budget n : ℕ) → (drain_of s out store budget).said ≡ refused n → n ≡ 0 → ⊥
  pub passes : (s : Session) (n : ℕ) → (pass_of s).said ≡ refused n → n ≡ 0 → ⊥
