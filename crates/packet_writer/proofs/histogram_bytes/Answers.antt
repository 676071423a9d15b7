-- Byte by byte, each the other bin of its pair.
use Rattle.std.proofs.Common.{rules, ◌-◌, get_or}
use Rattle.octets.proofs.FromFn.{from_fn_table}
use Rattle.packet_bins.specs.Bins.{bin_byte}
use Rattle.packet_writer.specs.Write.{histogram_of}
use Rattle.packet_writer.proofs.histogram_bytes.Goals as goal

pub returns : goal.returns
unfolding histogram_of
returns c = from_fn_table _ _ (λ k. get_or c.args.bins.now (bin_byte k - 56) 0) (λ k y q e. (search rules, search rules)) _ 0 48 c.from_fn.ensures.items
