-- Start by start.
use Rattle.std.proofs.Common.{rules}
use Rattle.octets.proofs.FromFn.{from_fn_table}
use Rattle.packet_bins.specs.Bins.{bin_start, bin_starts}
use Rattle.packet_bins.proofs.bin_starts.Goals as goal

pub returns : goal.returns
unfolding bin_starts
returns c = from_fn_table _ _ (bin_start c.args.hstart) (λ j y q k. (search rules, search rules)) _ 0 48 c.from_fn.ensures.items
