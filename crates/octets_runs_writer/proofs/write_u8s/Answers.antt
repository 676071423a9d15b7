-- Bytes are their own bytes.
use mathlib.Core.Path.{sym, ap, ◌∙◌}
use Rattle.octets.specs.Bytes.{put}
use Rattle.octets.proofs.Runs.{all_bytes}
use Rattle.octets_runs_writer.proofs.write_u8s.Goals as goal

pub returns : goal.returns
returns c =
    let a = c.args in
    c.write_into.ensures ∙ ap (put a.out.now a.i) (sym (all_bytes a.numbers.now (λ k. (c.shared_slice_known-1.given k).fits)))
