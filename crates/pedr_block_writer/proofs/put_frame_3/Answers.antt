-- A store for each column.
use mathlib.Core.Path.{◌≡◌, refl}
use lib.ListN.{length}
use Rattle.octets.specs.Bytes.{Octets}
use Rattle.octets.specs.Table.{octets_of_all}
use Rattle.layout.specs.Row.{row_parts}
use Rattle.layout.proofs.Store.{stop, ◌▸◌}
use Rattle.pedr_layout.specs.Block as columns
use Rattle.pedr_block_writer.specs.Rows.{frame3_row}
use Rattle.pedr_block_writer.proofs.Fits.{frame3_fits, frame_stored}
use Rattle.pedr_block_writer.proofs.Stores.{whole_stored, bytes_stored}
use borrow.Author.Rules.{rules}
use Rattle.pedr_block_writer.proofs.put_frame_3.Goals as goal

pub returns : goal.returns
unfolding octets_of_all
returns c =
    let f = c.args.fields in
    let runs = c.args.runs.now in
    let flags_length : length runs.status_flags ≡ 2 = search rules in
    let tracker_length : length runs.range_gate_tracker_array ≡ 14 = search rules in
    let bytes : Octets c.args.carried.now = λ k. (c.type_inv.carried k).fits in
    frame_stored (row_parts (columns.columns_in columns.frame3) (frame3_row f runs.status_flags runs.range_gate_tracker_array c.args.carried.now)) (columns.columns_in columns.frame3) refl
    (frame3_fits f runs.status_flags runs.range_gate_tracker_array _ flags_length tracker_length)
    (c.write_u16.ensures
    ▸ c.write_u16-2.ensures
    ▸ c.write_u8.ensures
    ▸ c.write_u8-2.ensures
    ▸ c.write_u16-3.ensures
    ▸ whole_stored 2 runs.status_flags _ _ _ flags_length c.write_run.ensures
    ▸ c.write_u16-4.ensures
    ▸ c.write_u8-3.ensures
    ▸ c.write_u8-4.ensures
    ▸ c.write_u8-5.ensures
    ▸ c.write_u8-6.ensures
    ▸ bytes_stored c.args.carried.now _ _ _ _ _ bytes c.copy_part.ensures
    ▸ c.write_run-2.ensures
    ▸ stop)
