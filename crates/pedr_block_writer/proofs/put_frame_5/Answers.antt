-- A store for each column.
use mathlib.Core.Path.{◌≡◌, refl}
use lib.ListN.{length}
use Rattle.octets.specs.Bytes.{Octets}
use Rattle.octets.specs.Table.{octets_of_all}
use Rattle.layout.specs.Row.{row_parts}
use Rattle.layout.proofs.Store.{stop, ◌▸◌}
use Rattle.pedr_layout.specs.Block as columns
use Rattle.pedr_block_writer.specs.Rows.{frame5_row}
use Rattle.pedr_block_writer.proofs.Fits.{frame5_fits, frame_stored}
use Rattle.pedr_block_writer.proofs.Stores.{bytes_stored}
use borrow.Author.Rules.{rules}
use Rattle.pedr_block_writer.proofs.put_frame_5.Goals as goal

pub returns : goal.returns
unfolding octets_of_all
returns c =
    let f = c.args.fields in
    let runs = c.args.runs.now in
    let tracker_length : length runs.range_gate_tracker_array ≡ 14 = search rules in
    let dump_length : length runs.memory_dump_segment ≡ 5 = search rules in
    let bytes : Octets c.args.carried.now = λ k. (c.type_inv.carried k).fits in
    frame_stored (row_parts (columns.columns_in columns.frame5) (frame5_row f runs.range_gate_tracker_array runs.memory_dump_segment c.args.carried.now)) (columns.columns_in columns.frame5) refl
    (frame5_fits f runs.range_gate_tracker_array runs.memory_dump_segment _ tracker_length dump_length)
    (c.write_run.ensures
    ▸ c.write_u32.ensures
    ▸ bytes_stored c.args.carried.now _ _ _ _ _ bytes c.copy_part.ensures
    ▸ c.write_u16.ensures
    ▸ c.write_run-2.ensures
    ▸ stop)
