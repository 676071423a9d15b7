-- The temperatures, then the monitors.
use mathlib.Core.Path.{refl}
use mir.Syntax.{w16}
use mir.ValLaws.{to_z-of_z}
use borrow.Author.Rules.{rules}
use Rattle.octets.specs.Table.{octets_of_all}
use Rattle.pedr_block_writer.proofs.Stores.{both_stored}
use Rattle.pedr_block_writer.proofs.put_frame_2.Goals as goal

pub returns : goal.returns
unfolding octets_of_all
returns c =
    let f = c.args.fields in
    let temperatures =
    rw (to_z-of_z w16 f.electronics_box_top_sc_thrmstr (search rules), to_z-of_z w16 f.laser_case_hot_foot_temp (search rules)) at c.write_run.ensures in
    (both_stored _ _ _ _ _ 508 512 refl temperatures c.write_run-2.ensures, refl)
