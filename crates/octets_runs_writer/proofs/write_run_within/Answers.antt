-- The law of loops that store numbers.
use Rattle.std.proofs.Common.{◌+◌, ◌*◌, ap, arith, rules}
use Rattle.octets_runs_writer.proofs.Writing.{none_stored, more_within}
use Rattle.octets_runs_writer.proofs.write_run_within.Goals as goal

pub loop-k-init : goal.loop-k-init
loop-k-init g c = let a = c.args in none_stored g.met.W.Word.laws a.numbers.now a.i a.out.now

pub loop-k-preserved : goal.loop-k-preserved
loop-k-preserved g c =
    let l = c.loop-k in
    let a = c.args in
    more_within g.met.W.Word.laws a.numbers.now a.i a.out.now l.out l.k _ (omega arith) (search rules) l.invariant _ _ _ c.requires c.write_at.ensures (ap (λ w. a.i + w * l.k) c.WIDTH.ensures) (omega arith)
