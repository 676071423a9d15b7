-- The answers stand in the report's places, from none on.
use mathlib.Core.Path.{◌∙◌}
use mathlib.Core.List.{List}
use Rattle.octets.specs.Refusal.{Said}
use Rattle.reorder_rules.specs.declared.Turn.{Turn}
use Rattle.reorder_session.specs.Calls.{drain_of, Drains}
use Rattle.reorder_serve.proofs.Stored.{drain_few}
use Rattle.reorder_serve.proofs.Reading.{reported, reported_places}
use Rattle.reorder_serve.proofs.drain.Goals as goal

pub returns : goal.returns
returns c =
    let a = c.args in
    let g = c.drain_into-drained in
    let d = g.ensures in
    let x = (drain_of a.session a.out.now a.store.now a.budget).said in
    reported (λ (x : Said (List Turn)). Drains a.session a.out.now a.store.now a.budget x g.result.session g.new.out) _ x d.drains
    (record { count = d.count; turns = d.places ∙ reported_places x (drain_few a.session a.out.now a.store.now a.budget) })
