-- What a turn tells of what is held, and how turns are described.
use Prim.Native.Nat.{ℕ, zero, suc, ◌+◌, ◌-◌, ◌≤◌, ◌<◌}
use mathlib.Core.Path.{◌≡◌, refl, sym, ap, ◌∙◌}
use mathlib.Core.Bool.{Bool, true, false, cond}
use mathlib.Core.List.{List, [], ◌∷◌, ◌++◌, map, append_assoc}
use native.Mathlib.Omega.{arith}
use lib.ListN.{length, replicate, set, length-append}
use Rattle.std.proofs.Math.Seq.{set-append_seam}
use Rattle.std.proofs.lemmas.List.{map-append}
use Rattle.window.specs.Window.{held_at, some_held}
use Rattle.window.proofs.Held.{some_held_lem, held_none}
use Rattle.reorder_rules.specs.Turn as Turn-rules
use Rattle.reorder_rules.specs.declared.Turn.{Turn}
use Rattle.reorder_rules.specs.declared.Turn.TheVariants.{Packet, Missing, Waiting}
use Rattle.reorder_session.specs.declared.Session.{Session}
use Rattle.reorder_session.specs.Calls.{turn}
use Rattle.reorder_turn.specs.declared.Description.{Description}
use Rattle.reorder_turn.specs.Described.{no_description, described, described_by, in_places, described_all}

-- what a turn tells of what is held
pub data Shows (s : Session) : Turn → Type 0 where
  shows_packet : held_at s.window s.window.start ≡ true → Shows s (Packet s.window.start)
  shows_missing : held_at s.window s.window.start ≡ false → (q : ℕ) → held_at s.window q ≡ true → s.window.start + s.threshold ≤ q
      → Shows s (Missing s.window.start)
  shows_waiting : held_at s.window s.window.start ≡ false → ((q : ℕ) → held_at s.window q ≡ true → s.window.start + s.threshold ≤ q → ⊥)
      → Shows s Waiting

pub shows : (s : Session) → Shows s (turn s)
unfolding Turn-rules.turn
shows s = go (held_at s.window s.window.start) (some_held s.window (s.window.start + s.threshold)) refl refl
  where
    go : (a b : Bool) → held_at s.window s.window.start ≡ a → some_held s.window (s.window.start + s.threshold) ≡ b
        → Shows s (cond a (Packet s.window.start) (cond b (Missing s.window.start) Waiting))
    go true b e f = shows_packet e
    go false true e f = let r = some_held_lem s.window _ f in shows_missing e r.0 r.1 r.2
    go false false e f = shows_waiting e (λ q h l. held_none s.window _ f q h l)

-- ---- descriptions

-- a description tells the turn that it describes
pub read_back : (t : Turn) → described_by (described t) ≡ t
read_back (Packet p) = refl
read_back (Missing p) = refl
read_back Waiting = refl

-- one turn more takes the next place
pub in_places_last : (ts : List Turn) (t : Turn) → length ts < 32 → set (in_places ts) (length ts) t ≡ in_places (ts ++ (t ∷ []))
unfolding in_places
in_places_last ts t h =
    let n : ℕ = 32 - length (ts ++ (t ∷ [])) in
    let e : 32 - length ts ≡ suc n = omega (arith, length-append ts (t ∷ [])) in
    ap (λ (k : ℕ). set (ts ++ replicate k Waiting) (length ts) t) e
    ∙ set-append_seam ts Waiting (replicate n Waiting) t
    ∙ sym (append_assoc ts (t ∷ []) (replicate n Waiting))

-- the descriptions of all places
described_waiting : (n : ℕ) → map described (replicate n Waiting) ≡ replicate n no_description
described_waiting zero = refl
described_waiting (suc n) = ap (λ (ds : List Description). no_description ∷ ds) (described_waiting n)

pub described_places : (ts : List Turn) → map described (in_places ts) ≡ described_all ts
unfolding in_places described_all
described_places ts = map-append described ts (replicate (32 - length ts) Waiting) ∙ ap (λ (ds : List Description). map described ts ++ ds) (described_waiting (32 - length ts))
