-- A store for each column.
use mathlib.Core.Path.{◌≡◌, refl}
use lib.ListN.{length}
use Rattle.octets.specs.Table.{octets_of_all}
use Rattle.layout.specs.Row.{row_parts}
use Rattle.layout.proofs.Store.{stop, ◌▸◌}
use Rattle.pedr_layout.specs.Block as columns
use Rattle.pedr_block_writer.specs.Rows.{frame6_row}
use Rattle.pedr_block_writer.proofs.Fits.{frame6_fits, frame_stored}
use Rattle.pedr_block_writer.proofs.Stores.{whole_stored}
use borrow.Author.Rules.{rules}
use Rattle.pedr_block_writer.proofs.put_frame_6.Goals as goal

pub returns : goal.returns
unfolding octets_of_all
returns c =
    let f = c.args.fields in
    let runs = c.args.runs.now in
    let dump_length : length runs.memory_dump_segment ≡ 5 = search rules in
    let echo_length : length runs.command_echo ≡ 8 = search rules in
    frame_stored (row_parts (columns.columns_in columns.frame6) (frame6_row f runs.memory_dump_segment runs.command_echo)) (columns.columns_in columns.frame6) refl
    (frame6_fits f runs.memory_dump_segment runs.command_echo dump_length echo_length)
    (whole_stored 5 runs.memory_dump_segment _ _ _ dump_length c.write_run.ensures
    ▸ whole_stored 8 runs.command_echo _ _ _ echo_length c.write_run-2.ensures
    ▸ c.write_u16.ensures
    ▸ stop)
