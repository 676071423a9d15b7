-- A drain with a budget of b is b serves: as answers, session and bytes.
use Rattle.std.specs.Prelude.{ℕ, zero, suc, ◌-◌, ◌≤◌, ◌≡◌, List, [], ◌∷◌, ◌++◌, map, length, replicate, get_or}
use Rattle.octets.specs.Refusal.{Said, answered}
use Rattle.packet_layout.specs.Layout.{packet_size}
use Rattle.reorder_session.specs.declared.Session.{Session}
use Rattle.reorder_rules.specs.Outcome.{Outcome}
use Rattle.reorder_rules.specs.declared.Turn.{Turn}
use Rattle.reorder_rules.specs.declared.Turn.TheVariants.{Packet, Waiting}
use Rattle.reorder_rules.specs.Turn.{bytes_at}
use Rattle.reorder_session.specs.Calls.{serve_of, drain_of}

-- n serves one after another: each gets the session that the one before left, the same store, and an output like `one`
unfoldable pub serves : ℕ → Session → List ℕ → List ℕ → List (Outcome Session Turn)
serves zero s one store = []
serves (suc n) s one store = serve_of s one store ∷ serves n (serve_of s one store).session one store

-- the session after them
unfoldable pub session_after : Session → List (Outcome Session Turn) → Session
session_after s [] = s
session_after s (o ∷ os) = session_after o.session os

abbrev pub said_by : Outcome Session Turn → Said Turn
said_by o = o.said

abbrev pub bytes_by : Outcome Session Turn → List ℕ
bytes_by o = o.bytes

-- the answer numbered i, from 0; Waiting past the last
abbrev pub answer_at : List Turn → ℕ → Turn
answer_at ts i = get_or ts i Waiting

-- a drain of s with this budget, which isn't refused and answers ts, against as many serves with outputs of at least 1,080 bytes
pub record IsServes (s : Session) (out store : List ℕ) (budget : ℕ) (ts : List Turn) (one : List ℕ) : Type 0 where
  -- each serve says what the drain answers, and Waiting past its count
  pub answers : map said_by (serves budget s one store) ≡ map answered (ts ++ replicate (budget - length ts) Waiting)
  pub session : (drain_of s out store budget).session ≡ session_after s (serves budget s one store)
  -- where the answer numbered i is a packet, the drain's bytes at 1,080 i are the first 1,080 of that serve's output
  pub given : (i p : ℕ) → answer_at ts i ≡ Packet p
      → bytes_at (drain_of s out store budget).bytes i ≡ bytes_at (get_or (map bytes_by (serves budget s one store)) i []) 0
  -- and where it isn't, the bytes there stay
  pub others : (i : ℕ) → ((p : ℕ) → answer_at ts i ≡ Packet p → ⊥) → bytes_at (drain_of s out store budget).bytes i ≡ bytes_at out i

abbrev pub DrainsAreServes : Type 0
DrainsAreServes =
    (s : Session) (out store : List ℕ) (budget : ℕ) (ts : List Turn) (one : List ℕ)
    → (drain_of s out store budget).said ≡ answered ts → packet_size ≤ length one → IsServes s out store budget ts one
