-- The table passes the test `tiles` by computation.
use mathlib.Core.Path.{refl}
use Rattle.layout.proofs.Cover.{covers}
use Rattle.packet_layout.specs.Layout.{packet_size, packet_columns}
use Rattle.packet_layout.proofs.layout_covers.Goals as goal

pub returns : goal.returns
returns c = covers packet_size packet_columns refl
