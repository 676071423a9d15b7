-- Lists of calls worked out call by call. What a call says depends on the session, the sizes and the packet that is offered, and is
-- computed; the bytes in the store and in the outputs are not, but follow from the laws of the reorder buffer.
use Prim.Native.Nat.{ℕ, zero, suc, ◌+◌, ◌≤◌}
use mathlib.Core.Path.{◌≡◌, refl, sym, ap, ◌∙◌}
use mathlib.Core.Bool.{Bool, true}
use mathlib.Core.List.Memᴰ
use mathlib.Core.List.{List, [], ◌∷◌, ◌++◌, append-nil, Memᴰ}
use mathlib.Core.Logic.{◌⊎◌, inl, inr}
use native.Mathlib.Decide.{ℕ_discrete}
use native.Mathlib.Omega.{arith}
use lib.ListN.{length, length-replicate}
use Rattle.reorder_rules.specs.Turn as Turn-rules
use Rattle.reorder_rules.specs.Serve as Serve-rules
use Rattle.reorder_rules.specs.Pass as Pass-rules
use Rattle.reorder_rules.specs.Offer as Offer-rules
use Rattle.octets.specs.Refusal.{Said, refused, answered, say, refusal_in}
use Rattle.octets.proofs.Ladder.{answer_said}
use Rattle.packet.specs.Fields.{fields_of}
use Rattle.window.specs.Window.{held_at, holding, first_window}
use Rattle.window.proofs.Held.{first_held, held_least, holding_other}
use Rattle.reorder_session.specs.declared.Session.{Session}
use Rattle.reorder_session.specs.Session.{with_window, slot, single}
use Rattle.reorder_rules.specs.Outcome.{Outcome}
use Rattle.reorder_session.specs.Calls.{offer_due, offer_of, turn, turned, shown, turns, turned_all, serve_refusal, drain_refusal, serve_of, drain_of, pass_refusal, pass_of}
use Rattle.reorder_offer.specs.Opening.{opened, open_due, open_of}
use Rattle.reorder_rules.proofs.Said.{said_is, left, left_refused}
use Rattle.reorder_rules.proofs.Turns.{Split, turns_split}
use Rattle.reorder_rules.proofs.Taken.{taken_offer}
use Rattle.reorder_rules.specs.declared.Turn.{Turn}
use Rattle.reorder_rules.specs.declared.Turn.TheVariants.{Packet, Waiting}
use Rattle.reorder_rules.specs.Turn.{bytes_at}
use Rattle.reorder_turn.proofs.Turns.{shows}
use Rattle.reorder_rules.proofs.Ready.{serve_ready}
use Rattle.reorder_laws.specs.Serves.{answer_at}
use Rattle.reorder_laws.proofs.Kept.{calls_keep}
use Rattle.reorder_laws.proofs.Pieces.{piece_same, slot_length}
use Rattle.reorder_laws.proofs.Bytes.{bytes_come_out}
use Rattle.reorder_laws.proofs.Drains.{drained, drained_packet}
use Rattle.reorder_histories.specs.History as History-rules
use Rattle.reorder_histories.specs.History.{Call, offer, serve, drain, pass, Event, took, gave, called_missing, offer_tells, serve_tells, drain_tells, pass_tells}
use Rattle.reorder_histories.specs.Histories.{State, step, run, Waits, WaitsAfter, Supposed, Consumer, opening}
use Rattle.reorder_histories.proofs.Between.{turns_told, told_all}
use Rattle.reorder_histories.proofs.Buffer.{turned_held}
use Rattle.reorder_histories.proofs.Link.{gave_held}
use Rattle.worked_histories.specs.Examples.{packet_at, filled, refusal, refusals, begun}

-- ---- what is known

-- a state's session and events, that its store is whole, and that each held position has its packet there
pub record Stands (σ : State) (s : Session) (es : List Event) : Type 0 where
  pub session : σ.session ≡ s
  pub size : length σ.store ≡ 34560
  pub bytes : (q : ℕ) → held_at s.window q ≡ true → slot σ.store q ≡ packet_at q
  pub events : σ.events ≡ es

-- what a list of calls from σ comes to
pub record Comes (offered : Bool) (σ : State) (cs : List Call) (ns : List ℕ) (s : Session) (es : List Event) : Type 0 where
  pub supposed : Supposed offered σ cs
  pub numbers : refusals σ cs ≡ ns
  pub ends : Stands (run σ cs) s es

length_filled : (n x : ℕ) → length (filled n x) ≡ n
unfolding filled
length_filled n x = length-replicate {A = ℕ} n x

-- ---- what is held

-- what is held after a turn was held before
held_before : (s : Session) (q : ℕ) → held_at (turned s (turn s)).window q ≡ true → held_at s.window q ≡ true
held_before s q h = sym (turned_held s (turn s) (shows s) q (held_least (turned s (turn s)).window q h)) ∙ h

given_held_all : (n : ℕ) (s : Session) (i p : ℕ) → answer_at (turns n s) i ≡ Packet p → held_at s.window p ≡ true
unfolding Turn-rules.turns
given_held_all zero s i p e = let z : ◌≡◌ {A = ℕ} 0 1 = cc in absurd (omega arith)
given_held_all (suc n) s i p e = go (turns_split single n s) i e (λ j h. given_held_all n (turned s (turn s)) j p h)
  where
    go : Split single n s → (j : ℕ) → answer_at (turns (suc n) s) j ≡ Packet p
        → ((j : ℕ) → answer_at (turns n (turned s (turn s))) j ≡ Packet p → held_at (turned s (turn s)).window p ≡ true) → held_at s.window p ≡ true
    go (inl u) j h r =
        let q : Waiting ≡ Packet p = sym (ap (λ (ts : List Turn). answer_at ts j) u.1) ∙ h in
        let z : ◌≡◌ {A = ℕ} 0 1 = cc in
        absurd (omega arith)
    go (inr u) zero h r = (gave_held s (turn s) (shows s) p (sym (ap (λ (ts : List Turn). answer_at ts 0) u) ∙ h)).1
    go (inr u) (suc j) h r = held_before s p (r j (sym (ap (λ (ts : List Turn). answer_at ts (suc j)) u) ∙ h))

held_before_all : (n : ℕ) (s : Session) (q : ℕ) → held_at (turned_all s (turns n s)).window q ≡ true → held_at s.window q ≡ true
unfolding Turn-rules.turns Turn-rules.turned_all
held_before_all zero s q h = h
held_before_all (suc n) s q h = go (turns_split single n s) h (λ k. held_before_all n (turned s (turn s)) q k)
  where
    go : Split single n s → held_at (turned_all s (turns (suc n) s)).window q ≡ true
        → (held_at (turned_all (turned s (turn s)) (turns n (turned s (turn s)))).window q ≡ true → held_at (turned s (turn s)).window q ≡ true)
        → held_at s.window q ≡ true
    go (inl u) k r = sym (ap (λ (ts : List Turn). held_at (turned_all s ts).window q) u.1) ∙ k
    go (inr e) k r = held_before s q (r (sym (ap (λ (ts : List Turn). held_at (turned_all s ts).window q) e) ∙ k))

-- ---- the opening

-- the session that the packet of position 0 opens with threshold h
abbrev pub first : ℕ → Session
first h = record { anchor = record { count = 0; time = 0 }; sum_word = 53; threshold = h; window = first_window }

module _ (c : Consumer) (size : length c.store ≡ 34560) (e : open_due 34560 (packet_at 0) c.threshold 53 ≡ answered 0) where
  pub open_said : (opening c (packet_at 0) 53).said ≡ answered 0
  unfolding open_of
  open_said =
      said_is (open_due (length c.store) (packet_at 0) c.threshold 53) c.before c.store _ _
      ∙ ap (λ (n : ℕ). open_due n (packet_at 0) c.threshold 53) size ∙ e

  open-session : (opening c (packet_at 0) 53).session ≡ opened (fields_of (packet_at 0)) c.threshold 53
  unfolding open_of
  open-session = (left (open_due (length c.store) (packet_at 0) c.threshold 53) c.before c.store _ _ 0 open_said).session

  pub open_stands : opened (fields_of (packet_at 0)) c.threshold 53 ≡ first c.threshold → Stands (begun c) (first c.threshold) (took 0 (packet_at 0) ∷ [])
  open_stands f =
      record {
        session = open-session ∙ f;
        size = calls_keep.by_open_store c.before c.store (packet_at 0) c.threshold 53 ∙ size;
        bytes = λ q h. there q (first_held q h);
        events = ap (λ (y : Said ℕ). offer_tells y (packet_at 0)) open_said;
      }
    where
      there : (q : ℕ) → q ≡ 0 → slot (opening c (packet_at 0) 53).bytes q ≡ packet_at q
      there zero h = (bytes_come_out.open_holds c.before c.store (packet_at 0) c.threshold 53 0 open_said).bytes
      there (suc q) h = absurd (omega arith)

-- ---- one call

-- a serve and a drain into n bytes x
abbrev by_serve : State → ℕ → ℕ → Outcome Session Turn
by_serve σ n x = serve_of σ.session (filled n x) σ.store

abbrev by_drain : State → ℕ → ℕ → ℕ → Outcome Session (List Turn)
by_drain σ n x budget = drain_of σ.session (filled n x) σ.store budget

-- what they say, and what a pass says
abbrev pub says_serve : Session → ℕ → Said Turn
says_serve s n = say (serve_refusal s 34560 n) (turn s)

abbrev pub says_drain : Session → ℕ → ℕ → Said (List Turn)
says_drain s n budget = say (drain_refusal s 34560 n budget) (turns budget s)

abbrev pub says_pass : Session → Said ℕ
says_pass s = say (pass_refusal s) s.window.start

-- the turns that were said
abbrev pub turn_of : Said Turn → List Turn
turn_of (refused n) = []
turn_of (answered t) = t ∷ []

abbrev pub turns_of : Said (List Turn) → List Turn
turns_of (refused n) = []
turns_of (answered ts) = ts

served : (s : Session) (out store : List ℕ) (t : Turn) → (serve_of s out store).said ≡ answered t
    → ((serve_of s out store).session ≡ turned s t) × ((serve_of s out store).bytes ≡ shown s 0 store out t)
unfolding Serve-rules.serve_of
served s out store t e =
    let l = left (say (serve_refusal s (length store) (length out)) (turn s)) s out (turned s) (shown s 0 store out) t e in
    (l.session, l.bytes)

module _ {σ : State} {s : Session} {es : List Event} (k : Stands σ s es) where
  -- what is said
  offer_said : (b : List ℕ) → (offer_of σ.session σ.store b).said ≡ offer_due s 34560 b
  unfolding Offer-rules.offer_of
  offer_said b = said_is (offer_due σ.session (length σ.store) b) σ.session σ.store _ _ ∙ (λ i. offer_due (k.session i) (k.size i) b)

  serve_said : (n x : ℕ) → (by_serve σ n x).said ≡ says_serve s n
  unfolding Serve-rules.serve_of
  serve_said n x =
      said_is (say (serve_refusal σ.session (length σ.store) (length (filled n x))) (turn σ.session)) σ.session (filled n x) _ _
      ∙ (λ i. say (serve_refusal (k.session i) (k.size i) (length_filled n x i)) (turn (k.session i)))

  drain_said : (n x budget : ℕ) → (by_drain σ n x budget).said ≡ says_drain s n budget
  unfolding Serve-rules.drain_of
  drain_said n x budget =
      said_is (say (drain_refusal σ.session (length σ.store) (length (filled n x)) budget) (turns budget σ.session)) σ.session (filled n x) _ _
      ∙ (λ i. say (drain_refusal (k.session i) (k.size i) (length_filled n x i) budget) (turns budget (k.session i)))

  pass_said : (pass_of σ.session).said ≡ says_pass s
  unfolding Pass-rules.pass_of
  pass_said = said_is (say (pass_refusal σ.session) σ.session.window.start) σ.session [] _ _ ∙ ap says_pass k.session

  -- what is left: by an offer that takes a packet, and by one that takes none
  after_take : (p : ℕ) → offer_due s 34560 (packet_at p) ≡ answered p
      → Stands (step σ (offer (packet_at p))) (with_window s (holding s.window p)) (es ++ took p (packet_at p) ∷ [])
  unfolding Offer-rules.offer_of History-rules.step
  after_take p e =
      let b = packet_at p in
      let a : (offer_of σ.session σ.store b).said ≡ answered p = offer_said b ∙ e in
      let l = left (offer_due σ.session (length σ.store) b) σ.session σ.store _ _ p a in
      record {
        session = l.session ∙ ap (λ (u : Session). with_window u (holding u.window p)) k.session;
        size = calls_keep.by_offer_store σ.session σ.store b ∙ k.size;
        bytes = λ q h. there q h (ℕ_discrete q p);
        events = (λ i. k.events i ++ offer_tells (a i) b);
      }
    where
      there : (q : ℕ) → held_at (holding s.window p) q ≡ true → Dec (q ≡ p) → slot (offer_of σ.session σ.store (packet_at p)).bytes q ≡ packet_at q
      there q h (yes i) =
          ap (slot (offer_of σ.session σ.store (packet_at p)).bytes) i
          ∙ (bytes_come_out.offer_holds σ.session σ.store (packet_at p) p (offer_said (packet_at p) ∙ e)).bytes
          ∙ ap packet_at (sym i)
      there q h (no n) =
          let t = taken_offer single s 34560 (packet_at p) p e in
          let f : held_at s.window q ≡ true = sym (holding_other s.window p t.position.least t.position.near q n) ∙ h in
          (bytes_come_out.offer_keeps σ.session σ.store q (packet_at q) (packet_at p)
          (record { held = ap (λ (u : Session). held_at u.window q) k.session ∙ f; bytes = k.bytes q f })).bytes

  after_no_take : (b : List ℕ) (n : ℕ) → offer_due s 34560 b ≡ refused n → Stands (step σ (offer b)) s es
  unfolding Offer-rules.offer_of History-rules.step
  after_no_take b n e =
      let a : (offer_of σ.session σ.store b).said ≡ refused n = offer_said b ∙ e in
      let l = left_refused (offer_due σ.session (length σ.store) b) σ.session σ.store _ _ n a in
      record {
        session = l.0 ∙ k.session;
        size = ap length l.1 ∙ k.size;
        bytes = λ q h. ap (λ (c : List ℕ). slot c q) l.1 ∙ k.bytes q h;
        events = (λ i. k.events i ++ offer_tells (a i) b) ∙ append-nil es;
      }

  -- by turns: the session then, that what is held then was held, and what they tell
  after_turns : (t : Session) (ts : List Turn) (new : List Event) → t ≡ turned_all s ts
      → ((q : ℕ) → held_at (turned_all s ts).window q ≡ true → held_at s.window q ≡ true) → new ≡ turns_told packet_at ts
      → Stands (record { session = t; store = σ.store; events = σ.events ++ new }) (turned_all s ts) (es ++ turns_told packet_at ts)
  after_turns t ts new e f g = record { session = e; size = k.size; bytes = λ q h. k.bytes q (f q h); events = (λ i. k.events i ++ g i) }

  after_serve : (n x : ℕ) (y : Said Turn) → says_serve s n ≡ y
      → Stands (step σ (serve (filled n x))) (turned_all s (turn_of y)) (es ++ turns_told packet_at (turn_of y))
  unfolding History-rules.step Serve-rules.serve_of Turn-rules.turned_all
  after_serve n x (refused m) e =
      let a : (by_serve σ n x).said ≡ refused m = serve_said n x ∙ e in
      let l = left_refused (say (serve_refusal σ.session (length σ.store) (length (filled n x))) (turn σ.session)) σ.session (filled n x) _ _ m a in
      after_turns _ [] _ (l.0 ∙ k.session) (λ q h. h) (ap (λ (z : Said Turn). serve_tells z (by_serve σ n x).bytes) a)
  after_serve n x (answered t) e =
      after_turns _ (t ∷ []) _ (l.0 ∙ ap (λ (u : Session). turned u t) k.session)
      (λ q h. held_before s q (ap (λ (u : Turn). held_at (turned s u).window q) (sym r.1) ∙ h))
      (ap (λ (z : Said Turn). serve_tells z (by_serve σ n x).bytes) a ∙ told_all packet_at (by_serve σ n x).bytes (t ∷ []) 0 there)
    where
      a : (by_serve σ n x).said ≡ answered t
      a = serve_said n x ∙ e

      l : ((by_serve σ n x).session ≡ turned σ.session t) × ((by_serve σ n x).bytes ≡ shown σ.session 0 σ.store (filled n x) t)
      l = served σ.session (filled n x) σ.store t a

      r : (serve_refusal s 34560 n ≡ 0) × (t ≡ turn s)
      r = answer_said (serve_refusal s 34560 n) (turn s) t (sym e)

      room : 1080 ≤ length (filled n x)
      room = omega (arith, length_filled n x, (serve_ready single s 34560 n r.0).out)

      there : (j p : ℕ) → answer_at (t ∷ []) j ≡ Packet p → bytes_at (by_serve σ n x).bytes (0 + j) ≡ packet_at p
      there zero p h =
          ap (λ (c : List ℕ). bytes_at c 0) (l.1 ∙ ap (shown σ.session 0 σ.store (filled n x)) h)
          ∙ piece_same (filled n x) (slot σ.store p) 0 (slot_length σ.store p k.size) (omega (arith, room))
          ∙ k.bytes p (gave_held s (turn s) (shows s) p (sym r.1 ∙ h)).1
      there (suc j) p h = let z : ◌≡◌ {A = ℕ} 0 1 = cc in absurd (omega arith)

  after_drain : (n x budget : ℕ) (y : Said (List Turn)) → says_drain s n budget ≡ y
      → Stands (step σ (drain (filled n x) budget)) (turned_all s (turns_of y)) (es ++ turns_told packet_at (turns_of y))
  unfolding History-rules.step Serve-rules.drain_of Turn-rules.turned_all
  after_drain n x budget (refused m) e =
      let a : (by_drain σ n x budget).said ≡ refused m = drain_said n x budget ∙ e in
      let y = say (drain_refusal σ.session (length σ.store) (length (filled n x)) budget) (turns budget σ.session) in
      let l = left_refused y σ.session (filled n x) _ _ m a in
      after_turns _ [] _ (l.0 ∙ k.session) (λ q h. h) (ap (λ (z : Said (List Turn)). drain_tells z (by_drain σ n x budget).bytes) a)
  after_drain n x budget (answered ts) e =
      let a : (by_drain σ n x budget).said ≡ answered ts = drain_said n x budget ∙ e in
      let d = drained σ.session (filled n x) σ.store budget ts a in
      let all : turns budget s ≡ ts = sym (d.all ∙ ap (turns budget) k.session) in
      let there : (j p : ℕ) → answer_at ts j ≡ Packet p → bytes_at (by_drain σ n x budget).bytes (0 + j) ≡ packet_at p =
      λ j p h.
      let q : 0 + j ≡ j = omega arith in
      ap (bytes_at (by_drain σ n x budget).bytes) q ∙ drained_packet σ.session (filled n x) σ.store budget ts d j p h
      ∙ k.bytes p (given_held_all budget s j p (ap (λ (us : List Turn). answer_at us j) all ∙ h)) in
      after_turns _ ts _ (d.session ∙ ap (λ (u : Session). turned_all u ts) k.session)
      (λ q h. held_before_all budget s q (ap (λ (us : List Turn). held_at (turned_all s us).window q) all ∙ h))
      (ap (λ (z : Said (List Turn)). drain_tells z (by_drain σ n x budget).bytes) a ∙ told_all packet_at (by_drain σ n x budget).bytes ts 0 there)

  after_no_pass : (m : ℕ) → says_pass s ≡ refused m → Stands (step σ pass) s es
  unfolding Pass-rules.pass_of History-rules.step
  after_no_pass m e =
      let a : (pass_of σ.session).said ≡ refused m = pass_said ∙ e in
      let l = left_refused (say (pass_refusal σ.session) σ.session.window.start) σ.session [] _ _ m a in
      record { session = l.0 ∙ k.session; size = k.size; bytes = k.bytes; events = (λ i. k.events i ++ pass_tells (a i)) ∙ append-nil es }

  -- a serve with room says Waiting
  pub waits : says_serve s 1080 ≡ answered Waiting → Waits σ
  waits e = record { out = filled 1080 0; room = omega (arith, length_filled 1080 0); answers = serve_said 1080 0 ∙ e }

-- ---- lists of calls

pub no_more : {σ : State} {s : Session} {es : List Event} → Stands σ s es → says_serve s 1080 ≡ answered Waiting → Comes true σ [] [] s es
unfolding Supposed refusals History-rules.run_by
no_more k e = record { supposed = waits k e; numbers = refl; ends = k }

-- one more call before a list
before : {offered then_offered : Bool} {σ : State} {c : Call} {cs : List Call} {n : ℕ} {ns : List ℕ} {s : Session} {es : List Event}
    → refusal σ c ≡ n → (Supposed then_offered (step σ c) cs → Supposed offered σ (c ∷ cs)) → Comes then_offered (step σ c) cs ns s es
    → Comes offered σ (c ∷ cs) (n ∷ ns) s es
unfolding refusals History-rules.run_by
before e f r = record { supposed = f r.supposed; numbers = (λ i. e i ∷ r.numbers i); ends = r.ends }

module _ {offered : Bool} {σ : State} {s : Session} {es : List Event} {cs : List Call} {ns : List ℕ} {t : Session} {fs : List Event} (k : Stands σ s es) where
  pub then_take : WaitsAfter offered σ → (p : ℕ) → offer_due s 34560 (packet_at p) ≡ answered p
      → (Stands (step σ (offer (packet_at p))) (with_window s (holding s.window p)) (es ++ took p (packet_at p) ∷ [])
      → Comes true (step σ (offer (packet_at p))) cs ns t fs)
      → Comes offered σ (offer (packet_at p) ∷ cs) (0 ∷ ns) t fs
  unfolding Supposed
  then_take h p e rest =
      let a : (offer_of σ.session σ.store (packet_at p)).said ≡ answered p = offer_said k (packet_at p) ∙ e in
      before (ap refusal_in a) (λ r. (h, (λ f. let z : ◌≡◌ {A = ℕ} 0 1 = cc in omega arith), r)) (rest (after_take k p e))

  pub then_no_take : WaitsAfter offered σ → (b : List ℕ) (n : ℕ) → (n ≡ 25 → ⊥) → offer_due s 34560 b ≡ refused n
      → (Stands (step σ (offer b)) s es → Comes true (step σ (offer b)) cs ns t fs) → Comes offered σ (offer b ∷ cs) (n ∷ ns) t fs
  unfolding Supposed
  then_no_take h b n far e rest =
      let a : (offer_of σ.session σ.store b).said ≡ refused n = offer_said k b ∙ e in
      before (ap refusal_in a) (λ r. (h, (λ f. far (cc)), r)) (rest (after_no_take k b n e))

  pub then_serve : (n x : ℕ) (y : Said Turn) → says_serve s n ≡ y
      → (Stands (step σ (serve (filled n x))) (turned_all s (turn_of y)) (es ++ turns_told packet_at (turn_of y)) → Comes offered (step σ (serve (filled n x))) cs ns t fs)
      → Comes offered σ (serve (filled n x) ∷ cs) (refusal_in y ∷ ns) t fs
  unfolding Supposed
  then_serve n x y e rest = before (ap refusal_in (serve_said k n x ∙ e)) (λ r. r) (rest (after_serve k n x y e))

  pub then_drain : (n x budget : ℕ) (y : Said (List Turn)) → says_drain s n budget ≡ y
      → (Stands (step σ (drain (filled n x) budget)) (turned_all s (turns_of y)) (es ++ turns_told packet_at (turns_of y))
      → Comes offered (step σ (drain (filled n x) budget)) cs ns t fs)
      → Comes offered σ (drain (filled n x) budget ∷ cs) (refusal_in y ∷ ns) t fs
  unfolding Supposed
  then_drain n x budget y e rest = before (ap refusal_in (drain_said k n x budget ∙ e)) (λ r. r) (rest (after_drain k n x budget y e))

  pub then_no_pass : (m : ℕ) → says_pass s ≡ refused m → (Stands (step σ pass) s es → Comes offered (step σ pass) cs ns t fs)
      → Comes offered σ (pass ∷ cs) (m ∷ ns) t fs
  unfolding Supposed
  then_no_pass m e rest =
      let a : (pass_of σ.session).said ≡ refused m = pass_said k ∙ e in
      before (ap refusal_in a) (λ r. ((m, a), r)) (rest (after_no_pass k m e))

-- ---- events that are not in a list

abbrev pub NotGiven : ℕ → List Event → Type 0
NotGiven p [] = Unit {0}
NotGiven p (took q b ∷ es) = NotGiven p es
NotGiven p (gave q b ∷ es) = (p ≡ q → ⊥) × NotGiven p es
NotGiven p (called_missing q ∷ es) = NotGiven p es

pub not_given : (p : ℕ) (c : List ℕ) (es : List Event) → NotGiven p es → Memᴰ (gave p c) es → ⊥
not_given p c [] n m = Memᴰ.not-nil m
not_given p c (e ∷ es) n m = go e n (Memᴰ.cases_cons m) (λ k l. not_given p c es k l)
  where
    go : (e : Event) → NotGiven p (e ∷ es) → (gave p c ≡ e) ⊎ Memᴰ (gave p c) es → (NotGiven p es → Memᴰ (gave p c) es → ⊥) → ⊥
    go (took q b) k (inl f) r = let z : ◌≡◌ {A = ℕ} 0 1 = cc in omega arith
    go (took q b) k (inr l) r = r k l
    go (gave q b) k (inl f) r = k.0 (cc)
    go (gave q b) k (inr l) r = r k.1 l
    go (called_missing q) k (inl f) r = let z : ◌≡◌ {A = ℕ} 0 1 = cc in omega arith
    go (called_missing q) k (inr l) r = r k l

abbrev pub NoneMissing : List Event → Type 0
NoneMissing [] = Unit {0}
NoneMissing (took q b ∷ es) = NoneMissing es
NoneMissing (gave q b ∷ es) = NoneMissing es
NoneMissing (called_missing q ∷ es) = ⊥

pub none_missing : (p : ℕ) (es : List Event) → NoneMissing es → Memᴰ (called_missing p) es → ⊥
none_missing p [] n m = Memᴰ.not-nil m
none_missing p (e ∷ es) n m = go e n (Memᴰ.cases_cons m) (λ k l. none_missing p es k l)
  where
    go : (e : Event) → NoneMissing (e ∷ es) → (called_missing p ≡ e) ⊎ Memᴰ (called_missing p) es
        → (NoneMissing es → Memᴰ (called_missing p) es → ⊥) → ⊥
    go (took q b) k (inl f) r = let z : ◌≡◌ {A = ℕ} 0 1 = cc in omega arith
    go (took q b) k (inr l) r = r k l
    go (gave q b) k (inl f) r = let z : ◌≡◌ {A = ℕ} 0 1 = cc in omega arith
    go (gave q b) k (inr l) r = r k l
    go (called_missing q) k l r = k
