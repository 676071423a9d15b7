-- Document 01, "Refusal numbers": the header's.
use Rattle.std.specs.Prelude.{ℕ, List, eqb}
use Rattle.octets.specs.Refusal.{refuse◌unless◌else◌}
use Rattle.layout.specs.Column.{value}
use Rattle.packet_layout.specs.Layout.{packet_length}
use Rattle.packet_layout.specs.Header.{version, spare, flag, instrument, segmentation, fixed_instrument, fixed_segmentation, fixed_length}

-- refusals 3 to 8: version, spare, flag, instrument not as fixed; segmentation not 3; length not 1,073
unfoldable pub header_refusal : List ℕ → ℕ
header_refusal bs =
    refuse 3 unless eqb (version bs) 0 else
    refuse 4 unless eqb (spare bs) 0 else
    refuse 5 unless eqb (flag bs) 0 else
    refuse 6 unless eqb (instrument bs) fixed_instrument else
    refuse 7 unless eqb (segmentation bs) fixed_segmentation else
    refuse 8 unless eqb (value bs packet_length) fixed_length else
    0
