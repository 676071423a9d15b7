-- Freed room is used again: where next has moved on from p, position p + 32 is free and has p's 1,080 bytes.
use Rattle.std.specs.Prelude.{ℕ, ◌+◌, ◌≤◌, ◌≡◌, List, pos, length}
use Rattle.octets.specs.Refusal.{answered}
use Rattle.packet_check.specs.Refusal.{read_refusal}
use Rattle.packet.specs.Fields.{fields_of}
use Rattle.reorder_rules.specs.Sizes.{positions, store_size, last_position}
use Rattle.reorder_session.specs.declared.Session.{Session}
use Rattle.reorder_session.specs.Session.{slot_start}
use Rattle.reorder_session.specs.Calls.{position_of, offer_of, serve_of, pass_of}
use Rattle.reorder_rules.specs.declared.Turn.TheVariants.{Packet, Missing}

-- a packet b that is accepted and whose position is p + 32, one of those served, is taken by an offer to t, into p's bytes of the store
pub record TakesAgain (t : Session) (store : List ℕ) (p : ℕ) : Type 0 where
  pub taken : (b : List ℕ) → read_refusal b t.sum_word ≡ 0 → position_of t (fields_of b) ≡ answered (pos (p + positions)) → p + positions ≤ last_position
      → (offer_of t store b).said ≡ answered (p + positions)
  pub same_bytes : slot_start (p + positions) ≡ slot_start p

pub record RoomIsUsedAgain : Type 0 where
  pub after_packet : (s : Session) (out store : List ℕ) (p : ℕ) → (serve_of s out store).said ≡ answered (Packet p) → TakesAgain (serve_of s out store).session store p
  pub after_missing : (s : Session) (out store : List ℕ) (p : ℕ) → (serve_of s out store).said ≡ answered (Missing p) → TakesAgain (serve_of s out store).session store p
  pub after_pass : (s : Session) (store : List ℕ) (p : ℕ) → (pass_of s).said ≡ answered p → length store ≡ store_size → TakesAgain (pass_of s).session store p
