-- What holds where an opening takes the packet.
use Prim.Native.Nat.{ℕ, ◌≤◌}
use mathlib.Core.Path.{◌≡◌, refl, sym}
use mathlib.Core.List.{List}
use borrow.Author.Tests.{eqb-true}
use Rattle.octets.specs.Refusal.{answered}
use Rattle.octets.proofs.Ladder.{passed, answer_said, within_true}
use Rattle.packet_check.specs.Refusal.{read_refusal}
use lib.ListN.{length}
use Rattle.octets.specs.Bytes.{put}
use Rattle.packet.specs.Fields.{fields_of}
use Rattle.reorder_rules.proofs.Said.{left_refused, comes}
use Rattle.reorder_rules.proofs.Numbered.{Numbered, say_numbered, outcome_numbered}
use Rattle.reorder_session.specs.declared.Session.{Session}
use Rattle.reorder_session.specs.Session.{slot_start}
use Rattle.reorder_offer.specs.Opening.{opened, open_refusal, open_due, open_of, Opens}

pub record Opened (size : ℕ) (b : List ℕ) (h word p : ℕ) : Type 0 where
  pub least : 1 ≤ h
  pub most : h ≤ 31
  pub store : size ≡ 34560
  pub read : read_refusal b word ≡ 0
  pub first : p ≡ 0

pub accepted_opening : (size : ℕ) (b : List ℕ) (h word p : ℕ) → open_due size b h word ≡ answered p → Opened size b h word p
unfolding open_refusal open_due
accepted_opening size b h word p e =
    let a = answer_said {A = ℕ} _ 0 p (sym e) in
    let c1 = passed _ 19 _ a.0 in
    let c2 = passed _ 26 _ c1.1 in
    let r = within_true 1 31 h c1.0 in
    record { least = r.0; most = r.1; store = eqb-true _ _ c2.0; read = c2.1; first = a.1 }

-- what the definition gives keeps the opening's own promise
pub opens_itself : (s : Session) (store b : List ℕ) (h word : ℕ)
    → Opens s store b h word (open_of s store b h word).said (open_of s store b h word).session (open_of s store b h word).bytes
unfolding open_of
opens_itself s store b h word =
    comes (left_refused (open_due (length store) b h word) s store (λ p. opened (fields_of b) h word) (λ p. put store (slot_start p) b)) refl refl refl

-- no refusal is 0
pub open_numbered : (s : Session) (store b : List ℕ) (h word : ℕ) → Numbered (open_of s store b h word).said
unfolding open_of open_due
open_numbered s store b h word = outcome_numbered (open_due (length store) b h word) s store _ _ (say_numbered (open_refusal (length store) b h word) 0)
