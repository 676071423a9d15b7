-- Bin by bin, each from its own read.
use Rattle.std.proofs.Common.{rules, get_or}
use Rattle.octets.proofs.FromFn.{from_fn_table}
use Rattle.packet_bins.specs.Bins.{bin_byte, bins_of}
use Rattle.packet_bins.proofs.read_bins.Goals as goal

pub returns : goal.returns
unfolding bins_of
returns c = from_fn_table _ _ (λ j. get_or c.args.bytes.now (bin_byte j) 0) (λ j y q k. (search rules, search rules)) _ 0 48 c.from_fn.ensures.items
