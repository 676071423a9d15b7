-- A store for each column.
use mathlib.Core.Path.{refl}
use Rattle.octets.specs.Bytes.{Octets}
use Rattle.octets.specs.Table.{octets_of_all}
use Rattle.layout.specs.Row.{row_parts}
use Rattle.layout.proofs.Store.{stop, ◌▸◌}
use Rattle.pedr_layout.specs.Block as columns
use Rattle.pedr_block_writer.specs.Rows.{frame7_row}
use Rattle.pedr_block_writer.proofs.Fits.{frame7_fits, frame_stored}
use Rattle.pedr_block_writer.proofs.Stores.{bytes_stored}
use Rattle.pedr_block_writer.proofs.put_frame_7.Goals as goal

pub returns : goal.returns
unfolding octets_of_all
returns c =
    let f = c.args.fields in
    let bytes : Octets c.args.carried.now = λ k. (c.type_inv.carried k).fits in
    frame_stored (row_parts (columns.columns_in columns.frame7) (frame7_row f c.args.carried.now)) (columns.columns_in columns.frame7) refl
    (frame7_fits f _)
    (c.write_u32.ensures
    ▸ c.write_u32-2.ensures
    ▸ bytes_stored c.args.carried.now _ _ _ _ _ bytes c.copy_part.ensures
    ▸ c.write_u32-3.ensures
    ▸ c.write_u8.ensures
    ▸ c.write_u8-2.ensures
    ▸ c.write_u8-3.ensures
    ▸ c.write_u8-4.ensures
    ▸ c.write_u16.ensures
    ▸ bytes_stored c.args.carried.now _ _ _ _ _ bytes c.copy_part-2.ensures
    ▸ stop)
