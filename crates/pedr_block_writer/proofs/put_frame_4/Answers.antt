-- A store of the one column.
use mathlib.Core.Path.{◌≡◌, refl}
use lib.ListN.{length}
use borrow.Author.Rules.{rules}
use Rattle.layout.specs.Row.{row_parts}
use Rattle.layout.proofs.Store.{stop, ◌▸◌}
use Rattle.pedr_layout.specs.Block as columns
use Rattle.pedr_block_writer.specs.Rows.{frame4_row}
use Rattle.pedr_block_writer.proofs.Fits.{frame4_fits, frame_stored}
use Rattle.pedr_block_writer.proofs.Stores.{whole_stored}
use Rattle.pedr_block_writer.proofs.put_frame_4.Goals as goal

pub returns : goal.returns
returns c =
    let tracker = c.args.runs.now.range_gate_tracker_array in
    let tracker_length : length tracker ≡ 14 = search rules in
    frame_stored (row_parts (columns.columns_in columns.frame4) (frame4_row tracker)) (columns.columns_in columns.frame4) refl (frame4_fits tracker tracker_length)
    (whole_stored 14 tracker _ _ _ tracker_length c.write_run.ensures
    ▸ stop)
