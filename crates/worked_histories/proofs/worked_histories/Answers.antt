-- Each list of calls by one step a call; what is said there by computation.
use Prim.Native.Nat.{ℕ}
use mathlib.Core.Path.{◌≡◌, refl, sym, subst}
use mathlib.Core.Bool.{false}
use mathlib.Core.List.{List, [], ◌∷◌, Memᴰ}
use native.Mathlib.Omega.{arith}
use lib.ListN.{length, length-replicate}
use Rattle.reorder_rules.specs.Turn as Turn-rules
use Rattle.reorder_rules.specs.Serve as Serve-rules
use Rattle.reorder_rules.specs.Pass as Pass-rules
use Rattle.reorder_rules.specs.Offer as Offer-rules
use Rattle.octets.specs.Bytes.{put}
use Rattle.octets.specs.Refusal.{refuse◌unless◌else◌, ◌then◌, refused, answered, say}
use Rattle.checksum.specs.Sum.{word_sum, zeroed, packet_sum}
use Rattle.packet_check.specs.Header.{header_refusal}
use Rattle.packet_check.specs.Refusal.{read_refusal}
use Rattle.packet.specs.Fields.{fields_of}
use Rattle.packet_writer.specs.Write.{histogram_of, unsummed, packet_of}
use Rattle.position.specs.Position.{position}
use Rattle.window.specs.Window.{held_at, some_among, some_held}
use Rattle.reorder_session.specs.declared.Session.{Session}
use Rattle.reorder_session.specs.Session.{past_end, broken}
use Rattle.reorder_rules.specs.Outcome.{refusing}
use Rattle.reorder_rules.specs.Offer.{position_refusal, admitted}
use Rattle.reorder_session.specs.Calls.{offer_due}
use Rattle.reorder_offer.specs.Opening.{opened, open_refusal, open_due}
use Rattle.reorder_rules.specs.declared.Turn.TheVariants.{Packet, Missing, Waiting}
use Rattle.reorder_histories.specs.History.{Event, took, gave, called_missing, offers}
use Rattle.worked.specs.Cases.{counted, timed_packet}
use Rattle.worked_histories.specs.Examples.{packet_at, filled, no_packet, late_less, late_more, absent_less, absent_more, begun}
use Rattle.worked_histories.proofs.Calls.{Comes, first, open_said, open_stands, waits, no_more, not_given, none_missing}
use Rattle.worked_histories.proofs.Calls.{then_take, then_no_take, then_serve, then_drain, then_no_pass}
use Rattle.worked_histories.proofs.worked_histories.Goals as goal

-- ---- what the opening and the offers say

-- a session with this threshold, next and marks
abbrev session : ℕ → ℕ → ℕ → Session
session h n m = record { anchor = record { count = 0; time = 0 }; sum_word = 53; threshold = h; window = record { start = n; marks = m } }

size : (x : ℕ) → length (filled 34560 x) ≡ 34560
unfolding filled
size x = length-replicate {A = ℕ} 34560 x

-- by the packet's position, and the threshold that it is offered to
record Says : Type 0 where
  opens_1 : open_due 34560 (packet_at 0) 1 53 ≡ answered 0
  opens_2 : open_due 34560 (packet_at 0) 2 53 ≡ answered 0
  opens_3 : open_due 34560 (packet_at 0) 3 53 ≡ answered 0
  session_opened : (h : ℕ) → opened (fields_of (packet_at 0)) h 53 ≡ first h
  offer_2_to_1 : offer_due (session 1 1 0) 34560 (packet_at 2) ≡ answered 2
  offer_2_to_2 : offer_due (session 2 0 1) 34560 (packet_at 2) ≡ answered 2
  offer_2_to_3 : offer_due (session 3 0 1) 34560 (packet_at 2) ≡ answered 2
  offer_1_to_1 : offer_due (session 1 3 0) 34560 (packet_at 1) ≡ refused 23
  offer_1_to_2 : offer_due (session 2 1 4) 34560 (packet_at 1) ≡ answered 1
  offer_5_to_1 : offer_due (session 1 3 0) 34560 (packet_at 5) ≡ answered 5
  offer_5_to_3 : offer_due (session 3 1 4) 34560 (packet_at 5) ≡ answered 5
  offer_none_to_1 : offer_due (session 1 3 0) 34560 no_packet ≡ refused 1
  offer_none_to_2 : offer_due (session 2 1 4) 34560 no_packet ≡ refused 1

says : Says
unfolding put refuse◌unless◌else◌ ◌then◌ say word_sum zeroed packet_sum header_refusal read_refusal histogram_of unsummed packet_of counted timed_packet fields_of position held_at some_among some_held past_end broken refusing position_refusal admitted Offer-rules.offer_refusal Offer-rules.offer_due open_refusal open_due
says =
    record {
      opens_1 = refl;
      opens_2 = refl;
      opens_3 = refl;
      session_opened = λ h. refl;
      offer_2_to_1 = refl;
      offer_2_to_2 = refl;
      offer_2_to_3 = refl;
      offer_1_to_1 = refl;
      offer_1_to_2 = refl;
      offer_5_to_1 = refl;
      offer_5_to_3 = refl;
      offer_none_to_1 = refl;
      offer_none_to_2 = refl;
    }

-- ---- the lists

abbrev events_of_late_less : List Event
events_of_late_less = took 0 (packet_at 0) ∷ gave 0 (packet_at 0) ∷ took 2 (packet_at 2) ∷ called_missing 1 ∷ gave 2 (packet_at 2) ∷ []

abbrev events_of_late_more : List Event
events_of_late_more = took 0 (packet_at 0) ∷ took 2 (packet_at 2) ∷ gave 0 (packet_at 0) ∷ took 1 (packet_at 1) ∷ gave 1 (packet_at 1) ∷ gave 2 (packet_at 2) ∷ []

abbrev events_of_absent_less : List Event
events_of_absent_less =
    took 0 (packet_at 0) ∷ gave 0 (packet_at 0) ∷ took 2 (packet_at 2) ∷ called_missing 1 ∷ gave 2 (packet_at 2) ∷ took 5 (packet_at 5) ∷ called_missing 3 ∷ called_missing 4 ∷ gave 5 (packet_at 5) ∷ []

abbrev events_of_absent_more : List Event
events_of_absent_more = took 0 (packet_at 0) ∷ took 2 (packet_at 2) ∷ gave 0 (packet_at 0) ∷ took 5 (packet_at 5) ∷ called_missing 1 ∷ gave 2 (packet_at 2) ∷ []

late_less_lem : Comes false (begun late_less) late_less.calls (0 ∷ 29 ∷ 0 ∷ 0 ∷ 1 ∷ 23 ∷ 0 ∷ []) (session 1 3 0) events_of_late_less
unfolding refuse◌unless◌else◌ ◌then◌ say held_at some_among some_held past_end broken Turn-rules.turn Turn-rules.turns Turn-rules.turned_all Serve-rules.serve_refusal Serve-rules.drain_refusal
late_less_lem =
    then_serve (open_stands late_less (size 0) says.opens_1 (says.session_opened 1)) 1080 0 (answered (Packet 0)) refl (λ a.
    then_serve a 10 0 (refused 29) refl (λ b.
    then_take b tt 2 says.offer_2_to_1 (λ c.
    then_drain c 34560 0 32 (answered (Missing 1 ∷ Packet 2 ∷ [])) refl (λ d.
    then_no_take d (waits d refl) no_packet 1 (λ e. omega arith) says.offer_none_to_1 (λ e.
    then_no_take e (waits e refl) (packet_at 1) 23 (λ f. omega arith) says.offer_1_to_1 (λ f.
    then_serve f 1080 0 (answered Waiting) refl (λ g.
    no_more g refl)))))))

late_more_lem : Comes false (begun late_more) late_more.calls (26 ∷ 0 ∷ 0 ∷ 31 ∷ 1 ∷ 0 ∷ 0 ∷ []) (session 2 3 0) events_of_late_more
unfolding refuse◌unless◌else◌ ◌then◌ say held_at some_among some_held past_end broken Turn-rules.turn Turn-rules.turns Turn-rules.turned_all Serve-rules.serve_refusal Serve-rules.drain_refusal Pass-rules.pass_refusal
late_more_lem =
    then_no_pass (open_stands late_more (size 255) says.opens_2 (says.session_opened 2)) 26 refl (λ a.
    then_take a tt 2 says.offer_2_to_2 (λ b.
    then_serve b 1080 7 (answered (Packet 0)) refl (λ c.
    then_drain c 34560 0 33 (refused 31) refl (λ d.
    then_no_take d (waits d refl) no_packet 1 (λ e. omega arith) says.offer_none_to_2 (λ e.
    then_take e (waits e refl) 1 says.offer_1_to_2 (λ f.
    then_drain f 34560 7 32 (answered (Packet 1 ∷ Packet 2 ∷ [])) refl (λ g.
    no_more g refl)))))))

absent_less_lem : Comes false (begun absent_less) absent_less.calls (0 ∷ 0 ∷ 0 ∷ 0 ∷ 0 ∷ 0 ∷ []) (session 1 6 0) events_of_absent_less
unfolding refuse◌unless◌else◌ ◌then◌ say held_at some_among some_held past_end broken Turn-rules.turn Turn-rules.turns Turn-rules.turned_all Serve-rules.serve_refusal Serve-rules.drain_refusal
absent_less_lem =
    then_serve (open_stands absent_less (size 0) says.opens_1 (says.session_opened 1)) 1080 0 (answered (Packet 0)) refl (λ a.
    then_take a tt 2 says.offer_2_to_1 (λ b.
    then_serve b 1080 0 (answered (Missing 1)) refl (λ c.
    then_serve c 1080 0 (answered (Packet 2)) refl (λ d.
    then_take d (waits d refl) 5 says.offer_5_to_1 (λ e.
    then_drain e 34560 0 32 (answered (Missing 3 ∷ Missing 4 ∷ Packet 5 ∷ [])) refl (λ f.
    no_more f refl))))))

absent_more_lem : Comes false (begun absent_more) absent_more.calls (0 ∷ 0 ∷ 0 ∷ 0 ∷ 0 ∷ 0 ∷ []) (session 3 3 32) events_of_absent_more
unfolding refuse◌unless◌else◌ ◌then◌ say held_at some_among some_held past_end broken Turn-rules.turn Turn-rules.turns Turn-rules.turned_all Serve-rules.serve_refusal Serve-rules.drain_refusal
absent_more_lem =
    then_take (open_stands absent_more (size 255) says.opens_3 (says.session_opened 3)) tt 2 says.offer_2_to_3 (λ a.
    then_drain a 34560 0 32 (answered (Packet 0 ∷ [])) refl (λ b.
    then_serve b 1080 0 (answered Waiting) refl (λ c.
    then_take c (waits c refl) 5 says.offer_5_to_3 (λ d.
    then_serve d 1080 7 (answered (Missing 1)) refl (λ e.
    then_serve e 1080 7 (answered (Packet 2)) refl (λ f.
    no_more f refl))))))

pub returns : goal.returns
unfolding held_at offers
returns c =
    record {
      late = record {
        less_accepted = open_said late_less (size 0) says.opens_1;
        more_accepted = open_said late_more (size 255) says.opens_2;
        thresholds = omega arith;
        same_offers = refl;
        less_list = late_less_lem.supposed;
        more_list = late_more_lem.supposed;
      };
      late_less_refusals = late_less_lem.numbers;
      late_more_refusals = late_more_lem.numbers;
      late_less_events = late_less_lem.ends.events;
      late_more_events = late_more_lem.ends.events;
      late_less_missing =
          subst (Memᴰ (called_missing 1)) (sym late_less_lem.ends.events) (Memᴰ.tail (Memᴰ.tail (Memᴰ.tail (Memᴰ.head refl))));
      late_less_unserved =
          λ b m. not_given 1 b events_of_late_less ((λ e. omega arith), ((λ e. omega arith), tt)) (subst (Memᴰ (gave 1 b)) late_less_lem.ends.events m);
      late_more_served =
          subst (Memᴰ (gave 1 (packet_at 1))) (sym late_more_lem.ends.events)
          (Memᴰ.tail (Memᴰ.tail (Memᴰ.tail (Memᴰ.tail (Memᴰ.head refl)))));
      late_more_missing_none = λ p m. none_missing p events_of_late_more tt (subst (Memᴰ (called_missing p)) late_more_lem.ends.events m);
      absent = record {
        less_accepted = open_said absent_less (size 0) says.opens_1;
        more_accepted = open_said absent_more (size 255) says.opens_3;
        thresholds = omega arith;
        same_offers = refl;
        less_list = absent_less_lem.supposed;
        more_list = absent_more_lem.supposed;
      };
      absent_less_refusals = absent_less_lem.numbers;
      absent_more_refusals = absent_more_lem.numbers;
      absent_less_events = absent_less_lem.ends.events;
      absent_more_events = absent_more_lem.ends.events;
      absent_more_missing =
          subst (Memᴰ (called_missing 1)) (sym absent_more_lem.ends.events)
          (Memᴰ.tail (Memᴰ.tail (Memᴰ.tail (Memᴰ.tail (Memᴰ.head refl)))));
      absent_less_missing =
          subst (Memᴰ (called_missing 1)) (sym absent_less_lem.ends.events) (Memᴰ.tail (Memᴰ.tail (Memᴰ.tail (Memᴰ.head refl))));
      absent_less_served =
          subst (Memᴰ (gave 5 (packet_at 5))) (sym absent_less_lem.ends.events)
          (Memᴰ.tail
          (Memᴰ.tail
          (Memᴰ.tail (Memᴰ.tail (Memᴰ.tail (Memᴰ.tail (Memᴰ.tail (Memᴰ.tail (Memᴰ.head refl)))))))));
      absent_more_unserved =
          λ b m.
          not_given 5 b events_of_absent_more ((λ e. omega arith), ((λ e. omega arith), tt)) (subst (Memᴰ (gave 5 b)) absent_more_lem.ends.events m);
      absent_more_held = record {
        earlier = took 0 (packet_at 0) ∷ took 2 (packet_at 2) ∷ gave 0 (packet_at 0) ∷ [];
        since = called_missing 1 ∷ gave 2 (packet_at 2) ∷ [];
        taken = absent_more_lem.ends.events;
        not_given = λ b m. not_given 5 b (called_missing 1 ∷ gave 2 (packet_at 2) ∷ []) ((λ e. omega arith), tt) m;
        bytes = absent_more_lem.ends.bytes 5 refl;
      };
    }
