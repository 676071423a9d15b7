-- Each table passes the test `tiles` by computation.
use mathlib.Core.Path.{refl}
use Rattle.layout.proofs.Cover.{covers}
use Rattle.pedr_layout.specs.Layout.{listed_columns, record_size, record_columns}
use Rattle.pedr_layout.proofs.layout_covers.Goals as goal

pub returns : goal.returns
returns c = (covers 508 listed_columns refl, covers record_size record_columns refl)
