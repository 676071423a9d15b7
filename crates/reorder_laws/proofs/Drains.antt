-- A drain's turns are as many serves: each serve of a session that isn't broken takes one turn.
use Prim.Native.Nat.{ℕ, zero, suc, ◌+◌, ◌-◌, ◌≤◌}
use mathlib.Core.Path.{◌≡◌, refl, sym, ap, ◌∙◌, subst}
use mathlib.Core.List.{List, [], ◌∷◌, ◌++◌, map}
use mathlib.Core.Logic.{inl, inr}
use native.Mathlib.Nat.{sub-zero}
use native.Mathlib.Omega.{arith}
use lib.ListN.{length, replicate, get_or}
use Rattle.reorder_rules.specs.Turn as Turn-rules
use Rattle.reorder_rules.specs.Serve as Serve-rules
use Rattle.octets.specs.Refusal.{Said, answered, say}
use Rattle.octets.proofs.Ladder.{then_pass, pass_eq, pass_le, say_answered, answer_said}
use Rattle.reorder_session.specs.declared.Session.{Session}
use Rattle.reorder_session.specs.Session.{slot, single}
use Rattle.reorder_rules.specs.Outcome.{outcome}
use Rattle.reorder_rules.proofs.Said.{left}
use Rattle.reorder_rules.specs.declared.Turn.{Turn}
use Rattle.reorder_rules.specs.declared.Turn.TheVariants.{Packet, Waiting}
use Rattle.reorder_rules.specs.Turn.{bytes_at}
use Rattle.reorder_session.specs.Calls.{turn, turned, shown, turns, turned_all, shown_all, serve_refusal, drain_refusal, serve_of, drain_of}
use Rattle.reorder_rules.proofs.Turns.{turns_stop, Split, turns_split, turns_most}
use Rattle.reorder_rules.proofs.Ready.{DrainReady, drain_ready}
use Rattle.reorder_session.proofs.Whole.{Whole, whole_fit, fit_whole}
use Rattle.reorder_laws.specs.Serves.{serves, session_after, said_by, bytes_by, answer_at, DrainsAreServes}
use Rattle.reorder_laws.proofs.Kept.{whole_turned}
use Rattle.reorder_laws.proofs.Pieces.{piece_same, slot_length, shown_packet, shown_other}

-- what is said by b serves that answer ts
abbrev padded : ℕ → List Turn → List (Said Turn)
padded b ts = map answered (ts ++ replicate (b - length ts) Waiting)

module _ (store : List ℕ) (size : length store ≡ 34560) (one : List ℕ) (room : 1080 ≤ length one) where
  -- one serve
  pub record Fine (s : Session) : Type 0 where
    pub says : (serve_of s one store).said ≡ answered (turn s)
    pub session : (serve_of s one store).session ≡ turned s (turn s)
    pub bytes : (serve_of s one store).bytes ≡ shown s 0 store one (turn s)

  pub fine : (s : Session) → Whole s → Fine s
  unfolding Serve-rules.serve_of Serve-rules.serve_refusal
  fine s v =
      let n = serve_refusal s (length store) (length one) in
      let z : n ≡ 0 =
      sym (then_pass _ _ 0 (fit_whole s v) (pass_eq (length store) 34560 27 _ 0 size (pass_le 1080 (length one) 29 0 0 room refl))) in
      let e : say n (turn s) ≡ answered (turn s) = sym (say_answered n (turn s) (turn s) z refl) in
      record {
        says = ap (λ (x : Said Turn). (outcome x s one (turned s) (shown s 0 store one)).said) e;
        session = ap (λ (x : Said Turn). (outcome x s one (turned s) (shown s 0 store one)).session) e;
        bytes = ap (λ (x : Said Turn). (outcome x s one (turned s) (shown s 0 store one)).bytes) e;
      }

  -- several serves
  said_all : (b : ℕ) (s : Session) → Whole s → map said_by (serves b s one store) ≡ padded b (turns b s)
  unfolding serves Turn-rules.turns
  said_all zero s v = refl
  said_all (suc b) s v = go (turns_split single b s) (λ t w. said_all b t w)
    where
      f : Fine s
      f = fine s v

      go : Split single b s → ((t : Session) → Whole t → map said_by (serves b t one store) ≡ padded b (turns b t))
          → map said_by (serves (suc b) s one store) ≡ padded (suc b) (turns (suc b) s)
      go (inl w) r =
          let same : (serve_of s one store).session ≡ s = f.session ∙ ap (turned s) w.0 in
          (λ i. (f.says ∙ ap answered w.0) i ∷ map said_by (serves b (same i) one store))
          ∙ ap (λ (l : List (Said Turn)). answered Waiting ∷ l)
          (r s v ∙ ap (padded b) (turns_stop single b s w.0) ∙ ap (λ (k : ℕ). map answered (replicate k Waiting)) (sub-zero b))
          ∙ ap (λ (k : ℕ). map answered (replicate k Waiting)) (sym (sub-zero (suc b)))
          ∙ sym (ap (padded (suc b)) w.1)
      go (inr e) r =
          let t = turned s (turn s) in
          let k : b - length (turns b t) ≡ suc b - suc (length (turns b t)) = omega arith in
          (λ i. f.says i ∷ map said_by (serves b (f.session i) one store))
          ∙ ap (λ (l : List (Said Turn)). answered (turn s) ∷ l) (r t (whole_turned s v))
          ∙ ap (λ (n : ℕ). answered (turn s) ∷ map answered (turns b t ++ replicate n Waiting)) k
          ∙ sym (ap (padded (suc b)) e)

  session_all : (b : ℕ) (s : Session) → Whole s → session_after s (serves b s one store) ≡ turned_all s (turns b s)
  unfolding serves Turn-rules.turns session_after Turn-rules.turned_all
  session_all zero s v = refl
  session_all (suc b) s v = go (turns_split single b s) (λ t w. session_all b t w)
    where
      f : Fine s
      f = fine s v

      go : Split single b s → ((t : Session) → Whole t → session_after t (serves b t one store) ≡ turned_all t (turns b t))
          → session_after s (serves (suc b) s one store) ≡ turned_all s (turns (suc b) s)
      go (inl w) r =
          let same : (serve_of s one store).session ≡ s = f.session ∙ ap (turned s) w.0 in
          ap (λ (t : Session). session_after t (serves b t one store)) same
          ∙ r s v ∙ ap (turned_all s) (turns_stop single b s w.0) ∙ sym (ap (turned_all s) w.1)
      go (inr e) r =
          ap (λ (t : Session). session_after t (serves b t one store)) f.session
          ∙ r (turned s (turn s)) (whole_turned s v) ∙ sym (ap (turned_all s) e)

  bytes_all : (b : ℕ) (s : Session) → Whole s → (i p : ℕ) → answer_at (turns b s) i ≡ Packet p
      → bytes_at (get_or (map bytes_by (serves b s one store)) i []) 0 ≡ slot store p
  unfolding serves Turn-rules.turns
  bytes_all zero s v i p e = absurd cc
  bytes_all (suc b) s v i p e = go (turns_split single b s) i e (λ t w. bytes_all b t w)
    where
      f : Fine s
      f = fine s v

      at : ℕ → Type 0
      at j = bytes_at (get_or (map bytes_by (serves (suc b) s one store)) j []) 0 ≡ slot store p

      go : Split single b s → (j : ℕ) → answer_at (turns (suc b) s) j ≡ Packet p
          → ((t : Session) → Whole t → (j p : ℕ) → answer_at (turns b t) j ≡ Packet p → bytes_at (get_or (map bytes_by (serves b t one store)) j []) 0 ≡ slot store p) → at j
      go (inl w) j h r =
          let q : Waiting ≡ Packet p = sym (ap (λ (ts : List Turn). answer_at ts j) w.1) ∙ h in
          absurd cc
      go (inr u) zero h r =
          let q : turn s ≡ Packet p = sym (ap (λ (ts : List Turn). answer_at ts 0) u) ∙ h in
          ap (λ (l : List ℕ). bytes_at l 0) (f.bytes ∙ ap (shown s 0 store one) q) ∙ piece_same one (slot store p) 0 (slot_length store p size) (omega arith)
      go (inr u) (suc j) h r =
          let q : answer_at (turns b (turned s (turn s))) j ≡ Packet p = sym (ap (λ (ts : List Turn). answer_at ts (suc j)) u) ∙ h in
          ap (λ (t : Session). bytes_at (get_or (map bytes_by (serves b t one store)) j []) 0) f.session ∙ r (turned s (turn s)) (whole_turned s v) j p q

-- ---- the drain

-- what a drain that answers ts has met, and what it leaves
pub record Drained (s : Session) (out store : List ℕ) (budget : ℕ) (ts : List Turn) : Type 0 where
  pub ready : DrainReady single s (length store) (length out) budget
  pub all : ts ≡ turns budget s
  pub few : length ts ≤ 32
  pub session : (drain_of s out store budget).session ≡ turned_all s ts
  pub bytes : (drain_of s out store budget).bytes ≡ shown_all s 0 store out ts

pub drained : (s : Session) (out store : List ℕ) (budget : ℕ) (ts : List Turn) → (drain_of s out store budget).said ≡ answered ts → Drained s out store budget ts
unfolding Serve-rules.drain_of
drained s out store budget ts e =
    let n = drain_refusal s (length store) (length out) budget in
    let l = left (say n (turns budget s)) s out (turned_all s) (shown_all s 0 store out) ts e in
    let a = answer_said n (turns budget s) ts (sym l.answer) in
    let r = drain_ready single s (length store) (length out) budget a.0 in
    let m : length ts ≤ budget = subst (λ (us : List Turn). length us ≤ budget) (sym a.1) (turns_most single budget s) in
    record { ready = r; all = a.1; few = omega (arith, r.most); session = l.session; bytes = l.bytes }

-- the bytes of a drain's answer numbered i
pub drained_packet : (s : Session) (out store : List ℕ) (budget : ℕ) (ts : List Turn) → Drained s out store budget ts → (i p : ℕ) → answer_at ts i ≡ Packet p
    → bytes_at (drain_of s out store budget).bytes i ≡ slot store p
drained_packet s out store budget ts d i p e =
    let q : i ≡ 0 + i = omega arith in
    ap (λ (l : List ℕ). bytes_at l i) d.bytes ∙ ap (bytes_at (shown_all s 0 store out ts)) q
    ∙ shown_packet store d.ready.store s ts 0 i p out (omega (arith, d.ready.out, d.few)) e

drained_other : (s : Session) (out store : List ℕ) (budget : ℕ) (ts : List Turn) → Drained s out store budget ts → (i : ℕ)
    → ((p : ℕ) → answer_at ts i ≡ Packet p → ⊥) → bytes_at (drain_of s out store budget).bytes i ≡ bytes_at out i
drained_other s out store budget ts d i n =
    let q : i ≡ 0 + i = omega arith in
    ap (λ (l : List ℕ). bytes_at l i) d.bytes ∙ ap (bytes_at (shown_all s 0 store out ts)) q
    ∙ shown_other store d.ready.store s ts 0 i out (omega (arith, d.ready.out, d.few)) n ∙ ap (bytes_at out) (sym q)

pub drains_are_serves : DrainsAreServes
drains_are_serves s out store budget ts one e room =
    let d = drained s out store budget ts e in
    let v = whole_fit s d.ready.fit in
    let z = d.ready.store in
    record {
      answers = said_all store z one room budget s v ∙ ap (padded budget) (sym d.all);
      session = d.session ∙ ap (turned_all s) d.all ∙ sym (session_all store z one room budget s v);
      given = λ i p h.
          drained_packet s out store budget ts d i p h
          ∙ sym (bytes_all store z one room budget s v i p (ap (λ (us : List Turn). answer_at us i) (sym d.all) ∙ h));
      others = λ i n. drained_other s out store budget ts d i n;
    }
