-- What every turn and every taken offer keeps true of one reorder buffer, from its opening on.
use Prim.Native.Nat.{ℕ, ◌+◌, ◌%◌, ◌≤◌, ◌<◌}
use mathlib.Core.Path.{◌≡◌, refl, sym, ap, ◌∙◌, subst}
use mathlib.Core.Bool.{true}
use mathlib.Core.List.Memᴰ
use mathlib.Core.List.{List, [], ◌∷◌, ◌++◌, append_assoc, Memᴰ}
use mathlib.Core.Logic.{◌⊎◌, inl, inr, ⊎_elim}
use native.Mathlib.Decide.{dec_lt, ℕ_discrete}
use native.Mathlib.Omega.{arith}
use lib.ListN.{length}
use Rattle.octets.specs.Bytes.{put}
use Rattle.octets.proofs.Store.{put_length}
use Rattle.packet_check.proofs.Accept.{accepted}
use Rattle.window.specs.Window.{held_at, holding}
use Rattle.window.proofs.Held.{held_least, freed_held, skipped_held, holding_same, holding_other}
use Rattle.reorder_session.specs.declared.Session.{Session}
use Rattle.reorder_session.specs.Session.{with_window, slot_start, slot, single}
use Rattle.reorder_session.proofs.Whole.{Whole}
use Rattle.reorder_rules.proofs.Taken.{Taken}
use Rattle.reorder_rules.specs.declared.Turn.{Turn}
use Rattle.reorder_rules.specs.declared.Turn.TheVariants.{Packet, Missing, Waiting}
use Rattle.reorder_session.specs.Calls.{turn, turned}
use Rattle.reorder_turn.proofs.Turns.{Shows, shows_packet, shows_missing, shows_waiting, shows}
use Rattle.reorder_laws.specs.Held.{Holds}
use Rattle.reorder_laws.proofs.Kept.{whole_turned, whole_holding}
use Rattle.reorder_laws.proofs.Pieces.{piece_same}
use Rattle.reorder_laws.proofs.Bytes.{beside, turn_gives}
use Rattle.reorder_histories.specs.History.{Event, took, gave, called_missing, Served, CalledMissing}
use Rattle.reorder_histories.specs.Histories.{State, StillHeld}
use Rattle.reorder_histories.proofs.Between.{turn_told, turned_by, one_turn, told_by, turned_once}

-- ---- events

pub gave≢took : (p q : ℕ) (b c : List ℕ) → gave p b ≡ took q c → ⊥
gave≢took p q b c e = cc

pub missing≢took : (p q : ℕ) (c : List ℕ) → called_missing p ≡ took q c → ⊥
missing≢took p q c e = cc

gave≢missing : (p q : ℕ) (b : List ℕ) → gave p b ≡ called_missing q → ⊥
gave≢missing p q b e = cc

-- what a turn has given, or called missing
pub told_gave : (bytes : ℕ → List ℕ) (t : Turn) (p : ℕ) (b : List ℕ) → Memᴰ (gave p b) (turn_told bytes t) → (t ≡ Packet p) × (bytes p ≡ b)
told_gave bytes (Packet q) p b m =
    let e : gave p b ≡ gave q (bytes q) = Memᴰ.eq_of_singleton m in
    let i : q ≡ p = cc in
    let j : bytes q ≡ b = cc in
    (ap Packet i, ap bytes (sym i) ∙ j)
told_gave bytes (Missing q) p b m = absurd (gave≢missing p q b (Memᴰ.eq_of_singleton m))
told_gave bytes Waiting p b m = absurd (Memᴰ.not-nil m)

pub told_missing : (bytes : ℕ → List ℕ) (t : Turn) (p : ℕ) → Memᴰ (called_missing p) (turn_told bytes t) → t ≡ Missing p
told_missing bytes (Packet q) p m = absurd (gave≢missing q p (bytes q) (sym (Memᴰ.eq_of_singleton m)))
told_missing bytes (Missing q) p m =
    let e : called_missing p ≡ called_missing q = Memᴰ.eq_of_singleton m in
    let i : q ≡ p = cc in
    ap Missing i
told_missing bytes Waiting p m = absurd (Memᴰ.not-nil m)

-- what is still held stays so where it isn't given and its bytes stay
still_held : (σ v : State) (p : ℕ) (b : List ℕ) (told : List Event) → v.events ≡ σ.events ++ told → ((c : List ℕ) → Memᴰ (gave p c) told → ⊥)
    → slot v.store p ≡ b → StillHeld σ p b → StillHeld v p b
still_held σ v p b told e n s h =
    record {
      earlier = h.earlier;
      since = h.since ++ told;
      taken = e ∙ ap (λ (l : List Event). l ++ told) h.taken ∙ append_assoc h.earlier (took p b ∷ h.since) told;
      not_given = λ c m. ⊎_elim (h.not_given c) (n c) (Memᴰ.append_cases h.since m);
      bytes = s;
    }

-- ---- one reorder buffer

-- every position before next was served or called missing; only those were served; what is marked is still held
pub record Buffer (σ : State) : Type 0 where
  pub sound : Whole σ.session
  pub size : length σ.store ≡ 34560
  pub settled : (p : ℕ) → p < σ.session.window.start → ((b : List ℕ) × Served σ p b) ⊎ CalledMissing σ p
  pub before_next : (p : ℕ) (b : List ℕ) → Served σ p b → p < σ.session.window.start
  pub held : (p : ℕ) → held_at σ.session.window p ≡ true → StillHeld σ p (slot σ.store p)

-- it has served p with these bytes, or holds them there
abbrev pub Has : State → ℕ → List ℕ → Type 0
Has σ p b = Served σ p b ⊎ Holds σ.session σ.store p b

-- ---- a turn

-- positions from the new next on are held as they were
pub turned_held : (s : Session) (t : Turn) → Shows s t → (p : ℕ) → (turned s t).window.start ≤ p → held_at (turned s t).window p ≡ held_at s.window p
turned_held s (Packet n) (shows_packet e) p l = freed_held s.window p (omega arith)
turned_held s (Missing n) (shows_missing e q h k) p l = skipped_held s.window p e (omega arith)
turned_held s Waiting (shows_waiting e n) p l = refl

pub turned_next : (s : Session) (t : Turn) → (s.window.start ≤ (turned s t).window.start) × ((turned s t).window.start ≤ s.window.start + 1)
turned_next s (Packet n) = (omega arith, omega arith)
turned_next s (Missing n) = (omega arith, omega arith)
turned_next s Waiting = (omega arith, omega arith)

-- what a turn gives was next, and isn't any more
gives_next : (s : Session) (t : Turn) → Shows s t → (p : ℕ) → t ≡ Packet p → p < (turned s t).window.start
gives_next s (Packet n) (shows_packet e) p i = let j : s.window.start ≡ p = cc in omega arith
gives_next s (Missing n) (shows_missing e q h k) p i = absurd cc
gives_next s Waiting (shows_waiting e n) p i = absurd cc

-- a turn serves next, calls it missing, or leaves it
settles : (σ : State) (t : Turn) → Shows σ.session t → (p : ℕ) → p ≡ σ.session.window.start → p < (turned σ.session t).window.start
    → ((b : List ℕ) × Served (turned_by σ t) p b) ⊎ CalledMissing (turned_by σ t) p
settles σ (Packet n) (shows_packet e) p i l =
    inl (slot σ.store p, Memᴰ.append_right σ.events (Memᴰ.head (ap (λ (q : ℕ). gave q (slot σ.store q)) i)))
settles σ (Missing n) (shows_missing e q h k) p i l = inr (Memᴰ.append_right σ.events (Memᴰ.head (ap called_missing i)))
settles σ Waiting (shows_waiting e n) p i l = absurd (omega arith)

module _ (σ : State) (bf : Buffer σ) where
  pub buffer_turned : Buffer (turned_once σ)
  buffer_turned =
      record {
        sound = whole_turned σ.session bf.sound;
        size = bf.size;
        settled = λ p l. settled p l (dec_lt p σ.session.window.start);
        before_next = λ p b m. before_next p b (Memᴰ.append_cases σ.events m);
        held = λ p h.
            let l : (one_turn σ.session).window.start ≤ p = held_least (one_turn σ.session).window p h in
            still_held σ (turned_once σ) p (slot σ.store p) (told_by σ) refl
            (λ c m.
            let g = told_gave (slot σ.store) (turn σ.session) p c m in
            omega (arith, gives_next σ.session (turn σ.session) (shows σ.session) p g.0))
            refl
            (bf.held p (sym (turned_held σ.session (turn σ.session) (shows σ.session) p l) ∙ h));
      }
    where
      lift : (p : ℕ) → ((b : List ℕ) × Served σ p b) ⊎ CalledMissing σ p
          → ((b : List ℕ) × Served (turned_once σ) p b) ⊎ CalledMissing (turned_once σ) p
      lift p (inl m) = inl (m.0, Memᴰ.append_left (told_by σ) m.1)
      lift p (inr m) = inr (Memᴰ.append_left (told_by σ) m)

      settled : (p : ℕ) → p < (one_turn σ.session).window.start → Dec (p < σ.session.window.start)
          → ((b : List ℕ) × Served (turned_once σ) p b) ⊎ CalledMissing (turned_once σ) p
      settled p l (yes k) = lift p (bf.settled p k)
      settled p l (no k) =
          settles σ (turn σ.session) (shows σ.session) p (omega (arith, (turned_next σ.session (turn σ.session)).1)) l

      before_next : (p : ℕ) (b : List ℕ) → Memᴰ (gave p b) σ.events ⊎ Memᴰ (gave p b) (told_by σ)
          → p < (one_turn σ.session).window.start
      before_next p b (inl m) = omega (arith, bf.before_next p b m, (turned_next σ.session (turn σ.session)).0)
      before_next p b (inr m) =
          gives_next σ.session (turn σ.session) (shows σ.session) p (told_gave (slot σ.store) (turn σ.session) p b m).0

  pub has_turned : (p : ℕ) (b : List ℕ) → Has σ p b → Has (turned_once σ) p b
  has_turned p b (inl m) = inl (Memᴰ.append_left (told_by σ) m)
  has_turned p b (inr h) = go (turn_gives σ.session σ.store p b h)
    where
      given : (u : Turn) → u ≡ Packet p → Memᴰ (gave p b) (turn_told (slot σ.store) u)
      given u e =
          subst (λ (v : Turn). Memᴰ (gave p b) (turn_told (slot σ.store) v)) (sym e) (Memᴰ.head (ap (gave p) (sym h.bytes)))

      go : Holds (one_turn σ.session) σ.store p b ⊎ (turn σ.session ≡ Packet p) → Has (turned_once σ) p b
      go (inl k) = inr k
      go (inr e) = inl (Memᴰ.append_right σ.events (given (turn σ.session) e))

-- ---- a taken offer

-- the state after an offer of b is answered with p
abbrev pub takes : State → ℕ → List ℕ → State
takes σ p b =
    record {
      session = with_window σ.session (holding σ.session.window p);
      store = put σ.store (slot_start p) b;
      events = σ.events ++ took p b ∷ [];
    }

abbrev pub Takes : State → ℕ → List ℕ → Type 0
Takes σ p b = Taken single σ.session (length σ.store) b p

module _ (σ : State) (p : ℕ) (b : List ℕ) (tk : Takes σ p b) where
  pub took_other : (q : ℕ) → (q ≡ p → ⊥) → held_at (takes σ p b).session.window q ≡ held_at σ.session.window q
  took_other q n = holding_other σ.session.window p tk.position.least tk.position.near q n

  pub took_same : held_at (takes σ p b).session.window p ≡ true
  took_same = holding_same σ.session.window p tk.position.least tk.position.near

  -- its bytes are stored, and the bytes of what was held stay
  pub took_bytes : slot (takes σ p b).store p ≡ b
  took_bytes = piece_same σ.store b (p % 32) (accepted b σ.session.sum_word tk.read).size (omega (arith, tk.store))

  pub slot_stays : (q : ℕ) → held_at σ.session.window q ≡ true → slot (takes σ p b).store q ≡ slot σ.store q
  slot_stays q h = (beside σ.session σ.store q (slot σ.store q) (record { held = h; bytes = refl }) b p tk).bytes

  -- it tells of nothing else
  pub took_gave : (q : ℕ) (c : List ℕ) → Served (takes σ p b) q c → Served σ q c
  took_gave q c m =
      ⊎_elim (λ (k : Served σ q c). k) (λ (k : Memᴰ (gave q c) (took p b ∷ [])). absurd (gave≢took q p c b (Memᴰ.eq_of_singleton k)))
      (Memᴰ.append_cases σ.events m)

  pub took_missing : (q : ℕ) → CalledMissing (takes σ p b) q → CalledMissing σ q
  took_missing q m =
      ⊎_elim (λ (k : CalledMissing σ q). k)
      (λ (k : Memᴰ (called_missing q) (took p b ∷ [])). absurd (missing≢took q p b (Memᴰ.eq_of_singleton k)))
      (Memᴰ.append_cases σ.events m)

  pub has_taken : (q : ℕ) (c : List ℕ) → Has σ q c → Has (takes σ p b) q c
  has_taken q c (inl m) = inl (Memᴰ.append_left (took p b ∷ []) m)
  has_taken q c (inr h) = inr (beside σ.session σ.store q c h b p tk)

  pub buffer_taken : Buffer σ → Buffer (takes σ p b)
  buffer_taken bf =
      record {
        sound = whole_holding σ.session bf.sound p tk.position.least tk.position.near tk.position.most;
        size = put_length σ.store (slot_start p) b ∙ bf.size;
        settled = λ q l. lift q (bf.settled q l);
        before_next = λ q c m. bf.before_next q c (took_gave q c m);
        held = λ q h. held q h (ℕ_discrete q p);
      }
    where
      lift : (q : ℕ) → ((c : List ℕ) × Served σ q c) ⊎ CalledMissing σ q → ((c : List ℕ) × Served (takes σ p b) q c) ⊎ CalledMissing (takes σ p b) q
      lift q (inl m) = inl (m.0, Memᴰ.append_left (took p b ∷ []) m.1)
      lift q (inr m) = inr (Memᴰ.append_left (took p b ∷ []) m)

      new : StillHeld (takes σ p b) p (slot (takes σ p b).store p)
      new = record {
        earlier = σ.events;
        since = [];
        taken = ap (λ (c : List ℕ). σ.events ++ took p c ∷ []) (sym took_bytes);
        not_given = λ c m. Memᴰ.not-nil m;
        bytes = refl;
      }

      held : (q : ℕ) → held_at (takes σ p b).session.window q ≡ true → Dec (q ≡ p) → StillHeld (takes σ p b) q (slot (takes σ p b).store q)
      held q h (yes i) = subst (λ (k : ℕ). StillHeld (takes σ p b) k (slot (takes σ p b).store k)) (sym i) new
      held q h (no n) =
          let old : held_at σ.session.window q ≡ true = sym (took_other q n) ∙ h in
          let same = slot_stays q old in
          subst (StillHeld (takes σ p b) q) (sym same)
          (still_held σ (takes σ p b) q (slot σ.store q) (took p b ∷ []) refl (λ c m. gave≢took q p c b (Memᴰ.eq_of_singleton m)) same (bf.held q old))
