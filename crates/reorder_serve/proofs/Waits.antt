-- What a drain comes to where nothing is to be served.
use Prim.Native.Nat.{ℕ}
use mathlib.Core.Path.{◌≡◌, ap}
use mathlib.Core.List.{List, []}
use lib.ListN.{length}
use Rattle.octets.specs.Refusal.{Said, answered, say}
use Rattle.reorder_rules.specs.Outcome.{outcome}
use Rattle.reorder_rules.specs.Turn as Turn-rules
use Rattle.reorder_rules.specs.declared.Turn.{Turn}
use Rattle.reorder_rules.specs.declared.Turn.TheVariants.{Waiting}
use Rattle.reorder_rules.specs.Serve as Serve-rules
use Rattle.reorder_rules.proofs.Turns.{turns_stop}
use Rattle.reorder_session.specs.declared.Session.{Session}
use Rattle.reorder_session.specs.Session.{single}
use Rattle.reorder_session.specs.Calls.{turn, turned_all, shown_all, drain_refusal, drain_of}

pub drain_waits : (s : Session) (out store : List ℕ) (budget : ℕ) → drain_refusal s (length store) (length out) budget ≡ 0 → turn s ≡ Waiting
    → drain_of s out store budget ≡ record { said = answered []; session = s; bytes = out }
unfolding Serve-rules.drain_of say Turn-rules.turned_all Turn-rules.shown_all
drain_waits s out store budget e w =
    ap (λ (x : Said (List Turn)). outcome x s out (turned_all s) (shown_all s 0 store out)) (λ i. say (e i) (turns_stop single budget s w i))
