-- What every call keeps, whatever the session, the bytes and the numbers.
use Rattle.std.specs.Prelude.{ℕ, ◌≤◌, ◌≡◌, false, List, length}
use Rattle.octets.specs.Refusal.{answered}
use Rattle.reorder_session.specs.declared.Session.{Session}
use Rattle.reorder_session.specs.Session.{broken}
use Rattle.reorder_offer.specs.Opening.{open_of}
use Rattle.reorder_session.specs.Calls.{offer_of, serve_of, drain_of, pass_of}

-- from the session s to the session t: a session that isn't broken stays so, next doesn't fall, and the rest is as the opening set it
pub record Keeps (s t : Session) : Type 0 where
  pub unbroken : broken s ≡ false → broken t ≡ false
  pub next_grows : s.window.start ≤ t.window.start
  pub same_anchor : t.anchor ≡ s.anchor
  pub same_word : t.sum_word ≡ s.sum_word
  pub same_threshold : t.threshold ≡ s.threshold

pub record CallsKeep : Type 0 where
  -- an accepted opening gives a session that isn't broken, and a store of the size it had
  pub by_open : (s : Session) (store b : List ℕ) (threshold word p : ℕ) → (open_of s store b threshold word).said ≡ answered p → broken (open_of s store b threshold word).session ≡ false
  pub by_open_store : (s : Session) (store b : List ℕ) (threshold word : ℕ) → length (open_of s store b threshold word).bytes ≡ length store
  pub by_offer : (s : Session) (store b : List ℕ) → Keeps s (offer_of s store b).session
  pub by_offer_store : (s : Session) (store b : List ℕ) → length (offer_of s store b).bytes ≡ length store
  pub by_serve : (s : Session) (out store : List ℕ) → Keeps s (serve_of s out store).session
  pub by_drain : (s : Session) (out store : List ℕ) (budget : ℕ) → Keeps s (drain_of s out store budget).session
  pub by_pass : (s : Session) → Keeps s (pass_of s).session
