-- What `serve` promises, of the numbers.
use mathlib.Core.Path.{refl}
use Rattle.reorder_session.specs.Session.{single}
use Rattle.reorder_rules.proofs.Said.{comes_by}
use Rattle.reorder_rules.proofs.Numbered.{serve_numbered}
use Rattle.reorder_c_answers.proofs.Told.{served_told}
use Rattle.reorder_c.proofs.Window.{serve_windowed, with_its_window}
use Rattle.reorder_c.proofs.serve.Goals as goal

pub returns : goal.returns
returns c =
    let a = c.args in
    let o = c.serve-served in
    let t = with_its_window a.session c.with_window.ensures o.ensures.session (serve_windowed _ _ _) in
    served_told _ _ (serve_numbered single _ _ _) (comes_by o.ensures refl t refl) c.served_answer.ensures
