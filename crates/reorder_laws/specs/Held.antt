-- A held packet's bytes come out as they went in.
use Rattle.std.specs.Prelude.{ℕ, ◌≡◌, true, List, ◌⊎◌}
use Rattle.octets.specs.Refusal.{answered}
use Rattle.window.specs.Window.{held_at}
use Rattle.reorder_session.specs.declared.Session.{Session}
use Rattle.reorder_session.specs.Session.{slot}
use Rattle.reorder_offer.specs.Opening.{open_of}
use Rattle.reorder_session.specs.Calls.{offer_of, serve_of, drain_of, pass_of}
use Rattle.reorder_rules.specs.declared.Turn.{Turn}
use Rattle.reorder_rules.specs.declared.Turn.TheVariants.{Packet}
use Rattle.reorder_rules.specs.Turn.{bytes_at}
use Rattle.reorder_laws.specs.Serves.{answer_at}

-- position p is held, with the bytes b in the store
pub record Holds (s : Session) (store : List ℕ) (p : ℕ) (b : List ℕ) : Type 0 where
  pub held : held_at s.window p ≡ true
  pub bytes : slot store p ≡ b

-- a serve gives p, with the bytes b in its output
pub record GivenBy (s : Session) (out store : List ℕ) (p : ℕ) (b : List ℕ) : Type 0 where
  pub said : (serve_of s out store).said ≡ answered (Packet p)
  pub bytes : bytes_at (serve_of s out store).bytes 0 ≡ b

-- an answer of a drain gives p, with the bytes b where that answer's bytes stand
pub record DrainedBy (s : Session) (out store : List ℕ) (budget p : ℕ) (b : List ℕ) : Type 0 where
  pub turns : List Turn
  pub said : (drain_of s out store budget).said ≡ answered turns
  pub number : ℕ
  pub answer : answer_at turns number ≡ Packet p
  pub bytes : bytes_at (drain_of s out store budget).bytes number ≡ b

pub record BytesComeOut : Type 0 where
  -- what an opening or an offer took is held, with its bytes
  pub open_holds : (s : Session) (store b : List ℕ) (threshold word p : ℕ) → (open_of s store b threshold word).said ≡ answered p
      → Holds (open_of s store b threshold word).session (open_of s store b threshold word).bytes p b
  pub offer_holds : (s : Session) (store b : List ℕ) (p : ℕ) → (offer_of s store b).said ≡ answered p
      → Holds (offer_of s store b).session (offer_of s store b).bytes p b
  -- what is held stays so under any offer and any pass, refused or not
  pub offer_keeps : (s : Session) (store : List ℕ) (p : ℕ) (b c : List ℕ) → Holds s store p b → Holds (offer_of s store c).session (offer_of s store c).bytes p b
  pub pass_keeps : (s : Session) (store : List ℕ) (p : ℕ) (b : List ℕ) → Holds s store p b → Holds (pass_of s).session store p b
  -- and under a serve or a drain until that gives it, with its bytes
  pub serve_gives : (s : Session) (out store : List ℕ) (p : ℕ) (b : List ℕ) → Holds s store p b
      → Holds (serve_of s out store).session store p b ⊎ GivenBy s out store p b
  pub drain_gives : (s : Session) (out store : List ℕ) (budget p : ℕ) (b : List ℕ) → Holds s store p b
      → Holds (drain_of s out store budget).session store p b ⊎ DrainedBy s out store budget p b
