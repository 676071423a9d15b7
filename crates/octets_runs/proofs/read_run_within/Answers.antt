-- The law of loops that read numbers.
use Rattle.std.proofs.Common.{◌+◌, ◌*◌, ap, arith}
use Rattle.octets_runs.proofs.Numbers.{more_within, all_read}
use Rattle.octets_runs.proofs.read_run_within.Goals as goal

pub loop-k-preserved : goal.loop-k-preserved
loop-k-preserved g c =
    let l = c.loop-k in
    let a = c.args in
    more_within g.met.W.Word.laws a.bytes.now a.i a.out.now l.out l.k _ _ _ (omega arith) c.read_at.ensures (ap (λ w. a.i + w * l.k) c.WIDTH.ensures) (omega arith) l.invariant

pub returns : goal.returns
returns g c =
    let l = c.loop-k in
    let a = c.args in
    all_read g.met.W.Word.laws a.bytes.now a.i a.out.now l.out l.k (omega arith) l.invariant
