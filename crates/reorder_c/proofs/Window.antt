-- A serve, a drain and a pass change a session's window alone.
use Prim.Native.Nat.{ℕ}
use mathlib.Core.Path.{◌≡◌, refl, sym, ap, ◌∙◌}
use mathlib.Core.List.{List, [], ◌∷◌}
use lib.ListN.{length}
use Rattle.reorder_rules.specs.Turn as Turn-rules
use Rattle.reorder_rules.specs.Serve as Serve-rules
use Rattle.reorder_rules.specs.Pass as Pass-rules
use Rattle.octets.specs.Refusal.{Said, say}
use Rattle.reorder_session.specs.declared.Session.{Session}
use Rattle.reorder_rules.specs.Outcome.{outcome}
use Rattle.reorder_rules.proofs.Said.{outcome_cases}
use Rattle.reorder_rules.specs.declared.Turn.{Turn}
use Rattle.reorder_rules.specs.declared.Turn.TheVariants.{Packet, Missing, Waiting}
use Rattle.reorder_session.specs.Calls.{turn, turned, turns, turned_all, serve_refusal, drain_refusal, serve_of, drain_of, pass_refusal, pass_of}
use Rattle.reorder_session.specs.Session.{with_window}

-- t is s with another window
abbrev Windowed : Session → Session → Type 0
Windowed s t = t ≡ with_window s t.window

turned_windowed : (s : Session) (t : Turn) → Windowed s (turned s t)
turned_windowed s (Packet p) = refl
turned_windowed s (Missing p) = refl
turned_windowed s Waiting = refl

turned_all_windowed : (s : Session) (ts : List Turn) → Windowed s (turned_all s ts)
unfolding Turn-rules.turned_all
turned_all_windowed s [] = refl
turned_all_windowed s (t ∷ ts) =
    turned_all_windowed (turned s t) ts ∙ ap (λ (r : Session). with_window r (turned_all (turned s t) ts).window) (turned_windowed s t)

outcome_windowed : {A : Type 0} (x : Said A) (s : Session) (b : List ℕ) (f : A → Session) (g : A → List ℕ)
    → ((a : A) → Windowed s (f a)) → Windowed s (outcome x s b f g).session
outcome_windowed x s b f g h = outcome_cases (λ t c. Windowed s t) x s b f g refl (λ a e. h a)

-- what the calls leave
pub serve_windowed : (s : Session) (out store : List ℕ) → Windowed s (serve_of s out store).session
unfolding Serve-rules.serve_of
serve_windowed s out store =
    outcome_windowed (say (serve_refusal s (length store) (length out)) (turn s)) s out (turned s) _ (turned_windowed s)

pub drain_windowed : (s : Session) (out store : List ℕ) (budget : ℕ) → Windowed s (drain_of s out store budget).session
unfolding Serve-rules.drain_of
drain_windowed s out store budget =
    outcome_windowed (say (drain_refusal s (length store) (length out) budget) (turns budget s)) s out (turned_all s) _ (turned_all_windowed s)

pub pass_windowed : (s : Session) → Windowed s (pass_of s).session
unfolding Pass-rules.pass_of
pass_windowed s = outcome_windowed (say (pass_refusal s) s.window.start) s [] _ _ (λ p. refl)

-- the session given, with the window that a call returned, is the session that the call returned
pub with_its_window : (s : Session) {t u r : Session} → r ≡ with_window s t.window → t ≡ u → Windowed s u → r ≡ t
with_its_window s is comes windowed = is ∙ ap (λ (x : Session). with_window s x.window) comes ∙ sym windowed ∙ sym comes
