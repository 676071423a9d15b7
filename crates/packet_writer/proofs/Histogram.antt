-- Laws of the histogram's bytes.
use Prim.Native.Nat.{ℕ, ◌-◌, ◌<◌}
use mathlib.Core.Path.{◌≡◌}
use mathlib.Core.List.{List}
use lib.ListN.{length, get_or}
use Rattle.octets.proofs.Fill.{table_length, table_at}
use Rattle.packet_bins.specs.Bins.{bin_byte}
use Rattle.packet_writer.specs.Write.{histogram_of}

pub histogram_length : (bins : List ℕ) → length (histogram_of bins) ≡ 48
unfolding histogram_of
histogram_length bins = table_length 48 (λ k. get_or bins (bin_byte k - 56) 0)

pub histogram_at : (bins : List ℕ) (k : ℕ) → k < 48 → get_or (histogram_of bins) k 0 ≡ get_or bins (bin_byte k - 56) 0
unfolding histogram_of
histogram_at bins k h = table_at 48 (λ k. get_or bins (bin_byte k - 56) 0) k 0 h
