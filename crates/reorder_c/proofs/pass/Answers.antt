-- What `pass` promises, of the numbers.
use mathlib.Core.Path.{refl}
use Rattle.reorder_session.specs.Session.{single}
use Rattle.reorder_rules.proofs.Said.{comes_by}
use Rattle.reorder_rules.proofs.Numbered.{pass_numbered}
use Rattle.reorder_c_answers.proofs.Told.{passed_told}
use Rattle.reorder_c.proofs.Window.{pass_windowed, with_its_window}
use Rattle.reorder_c.proofs.pass.Goals as goal

pub returns : goal.returns
returns c =
    let s = c.args.session in
    let o = c.pass-passed in
    let t = with_its_window s c.with_window.ensures o.ensures.session (pass_windowed s) in
    passed_told _ _ (pass_numbered single s) (comes_by o.ensures refl t refl) c.passed_answer.ensures
