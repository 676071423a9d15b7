-- A drain changes the window alone.
use mathlib.Core.Path.{refl, sym, subst}
use Rattle.reorder_session.specs.declared.Session.{Session}
use Rattle.reorder_c.specs.Calls.{DrainsAs}
use Rattle.reorder_c.proofs.Window.{drain_windowed, with_its_window}
use Rattle.mola.proofs.mola_drain.Goals as goal

pub returns : goal.returns
returns c =
    let a = c.args in
    let g = c.drain-drained in
    let t = with_its_window a.session.now refl g.ensures.0.comes.session (drain_windowed _ _ _ _) in
    subst (λ (s : Session). DrainsAs a.session.now a.out.now a.store.now a.budget a.descriptions.now g.result.answer s g.new.out g.new.descriptions)
    (sym t) g.ensures
