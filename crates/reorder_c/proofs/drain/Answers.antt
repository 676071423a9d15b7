-- A refusal leaves everything; a drain that has nothing to serve describes none; else the answers are described as they come.
use Prim.Native.Nat.{ℕ}
use mathlib.Core.Path.{◌≡◌, refl, sym, ap, ◌∙◌}
use mathlib.Core.Bool.{true}
use mathlib.Core.List.{List, []}
use native.Mathlib.Omega.{arith}
use Rattle.octets.specs.Refusal.{Said, refused, answered}
use Rattle.octets.proofs.Ladder.{say_refused}
use Rattle.refusal.specs.Number.{number}
use Rattle.refusal.proofs.Said.{number_not_0}
use Rattle.reorder_rules.specs.Outcome.{Outcome}
use Rattle.reorder_rules.specs.declared.Turn.{Turn}
use Rattle.reorder_rules.specs.declared.Turn.TheVariants.{Packet, Missing, Waiting}
use Rattle.reorder_rules.specs.Turn.{is_waiting}
use Rattle.reorder_rules.specs.Serve as Serve-rules
use Rattle.reorder_rules.proofs.Said.{stays, comes_by}
use Rattle.reorder_rules.proofs.Keeps.{drains_itself}
use Rattle.reorder_rules.proofs.Numbered.{drain_numbered}
use Rattle.reorder_session.specs.declared.Session.{Session}
use Rattle.reorder_session.specs.Session.{single}
use Rattle.reorder_session.specs.Calls.{turn, turns, drain_of, Drains}
use Rattle.reorder_turn.specs.Described.{described_all}
use Rattle.reorder_serve.proofs.Stored.{drain_answers, drain_few}
use Rattle.reorder_serve.proofs.Waits.{drain_waits}
use Rattle.reorder_c_answers.specs.Answers.{drained_count}
use Rattle.reorder_c_answers.proofs.Told.{numbers_stay, numbers_filled, drain_told}
use Rattle.reorder_c.proofs.Window.{drain_windowed, with_its_window}
use Rattle.reorder_c.proofs.drain.Goals as goal

only_waiting : (t : Turn) → is_waiting t ≡ true → t ≡ Waiting
only_waiting (Packet p) e = let z : ◌≡◌ {A = ℕ} 0 1 = cc in absurd (omega arith)
only_waiting (Missing p) e = let z : ◌≡◌ {A = ℕ} 0 1 = cc in absurd (omega arith)
only_waiting Waiting e = refl

pub returns-in-Err : goal.returns-in-Err
unfolding Serve-rules.drain_of
returns-in-Err c =
    let a = c.args in
    let n = number c.in-Err.refusal in
    let ne = number_not_0 c.in-Err.refusal in
    let k = stays _ _ _ _ _ _ (say_refused _ _ (turns a.budget a.session) c.in-Err.ensures ne) in
    drain_told (λ (x : Said (List Turn)). Drains a.session a.out.now a.store.now a.budget x a.session a.out.now)
    (refused n) _ a.descriptions.now _ (λ m h z. ne (let i : n ≡ m = cc in i ∙ z))
    (record { comes = k; count = omega arith })
    (record { count = c.refused_count.ensures ∙ ap (λ (k : ℕ). drained_count (refused k)) c.from.ensures; numbers = numbers_stay (refused n) a.descriptions.now n refl })

pub returns-then-waits : goal.returns-then-waits
unfolding described_all
returns-then-waits c =
    let a = c.args in
    let q = drain_waits a.session a.out.now a.store.now a.budget (sym c.in_default.ensures) (only_waiting (turn a.session) (sym c.if-waits.ensures)) in
    let k = drains_itself single (λ s. refl) (λ s. refl) a.session a.out.now a.store.now a.budget in
    let said : ◌≡◌ {A = Said (List Turn)} (answered []) _ = ap (λ (o : Outcome Session (List Turn)). o.said) (sym q) in
    drain_told (λ (x : Said (List Turn)). Drains a.session a.out.now a.store.now a.budget x a.session a.out.now)
    (answered []) _ a.descriptions.now _ (λ n h. drain_numbered single _ _ _ _ n (sym said ∙ h))
    (record {
      comes = comes_by k.comes said (ap (λ (o : Outcome Session (List Turn)). o.session) (sym q)) (ap (λ (o : Outcome Session (List Turn)). o.bytes) (sym q));
      count = omega arith;
    })
    (record { count = λ i. record { refusal = c.default.ensures.0 i; count = c.default.ensures.1 i }; numbers = refl })

pub returns : goal.returns
returns c =
    let a = c.args in
    let g = c.drain_into-drained in
    let o = g.ensures in
    let x = (drain_of a.session a.out.now a.store.now a.budget).said in
    let t = with_its_window a.session c.with_window.ensures o.drains.comes.session (drain_windowed _ _ _ _) in
    let e = drain_answers a.session a.out.now a.store.now a.budget (sym c.in_default.ensures) in
    drain_told
    (λ (x : Said (List Turn)). Drains a.session a.out.now a.store.now a.budget x c.with_window.result g.new.out)
    x _ a.descriptions.now _ (drain_numbered single _ _ _ _)
    (record { comes = comes_by o.drains.comes refl t refl; count = ap (λ (s : Session). s.window.start) t ∙ o.drains.count })
    (record {
      count = c.drained_count.ensures ∙ ap drained_count o.count;
      numbers = o.places ∙ numbers_filled x a.descriptions.now _ e (drain_few _ _ _ _ _ e);
    })
