-- Document 01, "The lists of demand 3": two pairs of consumers that meet all that demand 3 supposes, and to which the threshold makes a
-- difference. In the first pair position 1 comes after position 2: the one with the lower threshold has called it missing, the other serves it.
-- In the second it never comes, and both call it missing, the one with the higher threshold after position 5 has come, which it still holds at the end.
use Rattle.std.specs.Prelude.{ℕ, ◌*◌, ◌≡◌, List, [], ◌∷◌, replicate}
use Rattle.octets.specs.Refusal.{refusal_in}
use Rattle.reorder_session.specs.Calls.{offer_of, serve_of, drain_of, pass_of}
use Rattle.reorder_offer.specs.Opening.{no_session}
use Rattle.reorder_histories.specs.History.{Call, offer, serve, drain, pass, took, gave, called_missing, Served, CalledMissing}
use Rattle.reorder_histories.specs.Histories.{State, step, Consumer, at_start, at_end}
use Rattle.reorder_histories.specs.Histories.{OpenedAlike, StillHeld}
use Rattle.worked.specs.Cases.{timed_packet}

-- the packet of position p where the opening packet has count 0 and time 0: its own count is p and its time 14 p
abbrev pub packet_at : ℕ → List ℕ
packet_at p = timed_packet p (14 * p)

-- n bytes x
unfoldable pub filled : ℕ → ℕ → List ℕ
filled n x = replicate n x

-- too short for a packet
abbrev pub no_packet : List ℕ
no_packet = 1 ∷ 2 ∷ 3 ∷ []

-- ---- the refused calls

-- the number that a call is refused with, 0 where it isn't
abbrev pub refusal : State → Call → ℕ
refusal σ (offer b) = refusal_in (offer_of σ.session σ.store b).said
refusal σ (serve out) = refusal_in (serve_of σ.session out σ.store).said
refusal σ (drain out budget) = refusal_in (drain_of σ.session out σ.store budget).said
refusal σ pass = refusal_in (pass_of σ.session).said

-- that of each call, in order
unfoldable pub refusals : State → List Call → List ℕ
refusals σ [] = []
refusals σ (c ∷ cs) = refusal σ c ∷ refusals (step σ c) cs

-- ---- position 1 comes late

abbrev pub late_less : Consumer
late_less = record {
  before = no_session;
  store = filled 34560 0;
  threshold = 1;
  calls =
      serve (filled 1080 0)
      ∷ serve (filled 10 0)
      ∷ offer (packet_at 2)
      ∷ drain (filled 34560 0) 32
      ∷ offer no_packet
      ∷ offer (packet_at 1)
      ∷ serve (filled 1080 0)
      ∷ [];
}

abbrev pub late_more : Consumer
late_more = record {
  before = no_session;
  store = filled 34560 255;
  threshold = 2;
  calls =
      pass
      ∷ offer (packet_at 2)
      ∷ serve (filled 1080 7)
      ∷ drain (filled 34560 0) 33
      ∷ offer no_packet
      ∷ offer (packet_at 1)
      ∷ drain (filled 34560 7) 32
      ∷ [];
}

-- ---- position 1 never comes

abbrev pub absent_less : Consumer
absent_less = record {
  before = no_session;
  store = filled 34560 0;
  threshold = 1;
  calls =
      serve (filled 1080 0)
      ∷ offer (packet_at 2)
      ∷ serve (filled 1080 0)
      ∷ serve (filled 1080 0)
      ∷ offer (packet_at 5)
      ∷ drain (filled 34560 0) 32
      ∷ [];
}

abbrev pub absent_more : Consumer
absent_more = record {
  before = no_session;
  store = filled 34560 255;
  threshold = 3;
  calls =
      offer (packet_at 2)
      ∷ drain (filled 34560 0) 32
      ∷ serve (filled 1080 0)
      ∷ offer (packet_at 5)
      ∷ serve (filled 1080 7)
      ∷ serve (filled 1080 7)
      ∷ [];
}

-- ---- what they come to

-- each opens with the packet of position 0, and the sum's word 53
abbrev pub begun : Consumer → State
begun c = at_start c (packet_at 0) 53

abbrev pub ended : Consumer → State
ended c = at_end c (packet_at 0) 53

pub record Examples : Type 0 where
  -- position 1 comes late: all that is supposed, the refused calls, every event, and so who serves it
  pub late : OpenedAlike late_less late_more (packet_at 0) 53
  pub late_less_refusals : refusals (begun late_less) late_less.calls ≡ 0 ∷ 29 ∷ 0 ∷ 0 ∷ 1 ∷ 23 ∷ 0 ∷ []
  pub late_more_refusals : refusals (begun late_more) late_more.calls ≡ 26 ∷ 0 ∷ 0 ∷ 31 ∷ 1 ∷ 0 ∷ 0 ∷ []
  pub late_less_events : (ended late_less).events
      ≡ took 0 (packet_at 0) ∷ gave 0 (packet_at 0) ∷ took 2 (packet_at 2) ∷ called_missing 1 ∷ gave 2 (packet_at 2) ∷ []
  pub late_more_events : (ended late_more).events
      ≡ took 0 (packet_at 0) ∷ took 2 (packet_at 2) ∷ gave 0 (packet_at 0) ∷ took 1 (packet_at 1) ∷ gave 1 (packet_at 1) ∷ gave 2 (packet_at 2) ∷ []
  pub late_less_missing : CalledMissing (ended late_less) 1
  pub late_less_unserved : (c : List ℕ) → Served (ended late_less) 1 c → ⊥
  pub late_more_served : Served (ended late_more) 1 (packet_at 1)
  pub late_more_missing_none : (p : ℕ) → CalledMissing (ended late_more) p → ⊥
  -- position 1 never comes: the same, and so who calls it missing, who serves position 5, and who still holds it
  pub absent : OpenedAlike absent_less absent_more (packet_at 0) 53
  pub absent_less_refusals : refusals (begun absent_less) absent_less.calls ≡ 0 ∷ 0 ∷ 0 ∷ 0 ∷ 0 ∷ 0 ∷ []
  pub absent_more_refusals : refusals (begun absent_more) absent_more.calls ≡ 0 ∷ 0 ∷ 0 ∷ 0 ∷ 0 ∷ 0 ∷ []
  pub absent_less_events : (ended absent_less).events
      ≡ took 0 (packet_at 0) ∷ gave 0 (packet_at 0) ∷ took 2 (packet_at 2) ∷ called_missing 1 ∷ gave 2 (packet_at 2) ∷ took 5 (packet_at 5) ∷ called_missing 3 ∷ called_missing 4 ∷ gave 5 (packet_at 5) ∷ []
  pub absent_more_events : (ended absent_more).events
      ≡ took 0 (packet_at 0) ∷ took 2 (packet_at 2) ∷ gave 0 (packet_at 0) ∷ took 5 (packet_at 5) ∷ called_missing 1 ∷ gave 2 (packet_at 2) ∷ []
  pub absent_more_missing : CalledMissing (ended absent_more) 1
  pub absent_less_missing : CalledMissing (ended absent_less) 1
  pub absent_less_served : Served (ended absent_less) 5 (packet_at 5)
  pub absent_more_unserved : (c : List ℕ) → Served (ended absent_more) 5 c → ⊥
  pub absent_more_held : StillHeld (ended absent_more) 5 (packet_at 5)
