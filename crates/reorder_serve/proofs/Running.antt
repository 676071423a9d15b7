-- A drain on its way.
use Prim.Native.Nat.{ℕ, suc, ◌+◌, ◌-◌, ◌≤◌, ◌<◌}
use mathlib.Core.Path.{◌≡◌, refl, sym, ap, ◌∙◌}
use mathlib.Core.List.{List, [], ◌∷◌, ◌++◌, append_assoc, append-nil}
use native.Mathlib.Nat.{sub-zero}
use native.Mathlib.Omega.{arith}
use lib.ListN.{length, length-append}
use Rattle.reorder_rules.specs.Turn as Turn-rules
use Rattle.reorder_rules.specs.declared.Turn.{Turn}
use Rattle.reorder_rules.specs.declared.Turn.TheVariants.{Packet, Missing, Waiting}
use Rattle.reorder_rules.proofs.Turns.{Moves, one_more, shown_length, turns_more, turned_last, shown_last}
use Rattle.reorder_session.specs.declared.Session.{Session}
use Rattle.reorder_session.specs.Session.{single}
use Rattle.reorder_session.specs.Calls.{turn, turned, shown, turns, turned_all, shown_all}
use Rattle.reorder_serve.specs.Places.{stored_all}
use Rattle.reorder_serve.proofs.Stored.{stored_last}

-- `done` are the answers so far, i of them; s, out and places are what they leave
pub record Running {P : Type 0} (stored : P → ℕ → Turn → P) (budget : ℕ) (store out₀ : List ℕ) (s₀ : Session) (places₀ : P)
    (out : List ℕ) (s : Session) (places : P) (i : ℕ) : Type 0 where
  pub done : List Turn
  pub count : length done ≡ i
  pub within : i ≤ budget
  pub session : s ≡ turned_all s₀ done
  pub output : out ≡ shown_all s₀ 0 store out₀ done
  pub size : length out ≡ length out₀
  pub reported : places ≡ stored_all stored places₀ 0 done
  pub next : s.window.start ≡ s₀.window.start + i
  pub rest : turns budget s₀ ≡ done ++ turns (budget - i) s

-- what a drain comes to
pub record Done {P : Type 0} (stored : P → ℕ → Turn → P) (budget : ℕ) (store out₀ : List ℕ) (s₀ : Session) (places₀ : P)
    (out : List ℕ) (s : Session) (places : P) (i : ℕ) : Type 0 where
  pub count : i ≡ length (turns budget s₀)
  pub session : s ≡ turned_all s₀ (turns budget s₀)
  pub output : out ≡ shown_all s₀ 0 store out₀ (turns budget s₀)
  pub reported : places ≡ stored_all stored places₀ 0 (turns budget s₀)

-- a turn that isn't Waiting
pub moves : (t : Turn) → (t ≡ Waiting → ⊥) → Moves t
moves (Packet p) n = tt
moves (Missing p) n = tt
moves Waiting n = absurd (n refl)

module _ {P : Type 0} (stored : P → ℕ → Turn → P) (budget : ℕ) (store out₀ : List ℕ) (s₀ : Session) (places₀ : P) where
  -- before the first answer
  pub run_none : Running stored budget store out₀ s₀ places₀ out₀ s₀ places₀ 0
  unfolding Turn-rules.turned_all Turn-rules.shown_all stored_all
  run_none =
      record {
        done = [];
        count = refl;
        within = omega arith;
        session = refl;
        output = refl;
        size = refl;
        reported = refl;
        next = omega arith;
        rest = ap (λ (k : ℕ). turns k s₀) (sym (sub-zero budget));
      }

  module _ (out : List ℕ) (s : Session) (places : P) (i : ℕ) (running : Running stored budget store out₀ s₀ places₀ out s places i) where
    -- one answer more
    pub run_more : i < budget → (s' : Session) (out' : List ℕ) (t' : Turn) (places' : P) → Moves (turn s)
        → s' ≡ turned s (turn s) → out' ≡ shown s i store out (turn s) → t' ≡ turn s → places' ≡ stored places i t'
        → Running stored budget store out₀ s₀ places₀ out' s' places' (i + 1)
    run_more l s' out' t' places' n es eo et ep =
        let ts = running.done in
        let t = turn s in
        let z : i ≡ 0 + length ts = omega (arith, running.count) in
        record {
          done = ts ++ (t ∷ []);
          count = length-append ts (t ∷ []) ∙ omega arith;
          within = omega arith;
          session = es ∙ ap (λ (x : Session). turned x t) running.session ∙ sym (turned_last single s₀ ts t);
          output = eo ∙ (λ k. shown (running.session k) (z k) store (running.output k) t) ∙ sym (shown_last single s₀ 0 store out₀ ts t);
          size = ap length eo ∙ shown_length single s i store out t ∙ running.size;
          reported = ep ∙ (λ k. stored (running.reported k) (z k) (et k)) ∙ sym (stored_last stored places₀ 0 ts t);
          next = ap (λ (x : Session). x.window.start) es ∙ one_more single (λ x. refl) (λ x. refl) s t n ∙ omega (arith, running.next);
          rest =
              running.rest
              ∙ ap (λ (k : ℕ). ts ++ turns k s) (let e : budget - i ≡ suc (budget - (i + 1)) = omega arith in e)
              ∙ ap (λ (r : List Turn). ts ++ r) (turns_more single (budget - (i + 1)) s t refl n)
              ∙ ap (λ (x : Session). ts ++ (t ∷ turns (budget - (i + 1)) x)) (sym es)
              ∙ sym (append_assoc ts (t ∷ []) (turns (budget - (i + 1)) s'));
        }

    -- the last answer has come
    pub run_done : (out' : List ℕ) → out' ≡ out → turns (budget - i) s ≡ [] → Done stored budget store out₀ s₀ places₀ out' s places i
    run_done out' eo e =
        let all : running.done ≡ turns budget s₀ = sym (running.rest ∙ ap (λ (r : List Turn). running.done ++ r) e ∙ append-nil running.done) in
        record {
          count = sym running.count ∙ ap length all;
          session = running.session ∙ ap (turned_all s₀) all;
          output = eo ∙ running.output ∙ ap (shown_all s₀ 0 store out₀) all;
          reported = running.reported ∙ ap (stored_all stored places₀ 0) all;
        }

    pub run_spent : budget ≤ i → turns (budget - i) s ≡ []
    unfolding Turn-rules.turns
    run_spent h = let e : budget - i ≡ 0 = omega arith in ap (λ (k : ℕ). turns k s) e
