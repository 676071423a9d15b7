-- One store for each column.
use mathlib.Core.Path.{◌≡◌, refl, sym, ap, ◌∙◌}
use lib.ListN.{length, length-map}
use mir.Syntax.{w32}
use mir.Val.{SFits}
use mir.ValLaws.{to_z-of_z}
use Rattle.layout.proofs.Store.{stop, ◌▸◌, puts_join}
use borrow.Author.Rules.{rules}
use Rattle.pedr_flags.specs.Class.{class_number}
use Rattle.pedr_segments.specs.Parts.{ground_parts}
use Rattle.pedr_segments.proofs.Fits.{ground_columns, ground_fits, sized}
use Rattle.pedr_segments.proofs.put_ground.Goals as goal

pub returns : goal.returns
returns c =
    let f = c.args.fields.now in
    let a = c.args.arrays.now in
    let latitude : SFits w32 f.position.ground_latitude = search rules in
    let longitude : SFits w32 f.position.ground_longitude = search rules in
    let ground = rw (to_z-of_z w32 _ latitude, to_z-of_z w32 _ longitude) at c.write_run-2.ensures in
    let numbers : length c.class_numbers.result ≡ 20 = search rules in
    let class : length a.shots.class ≡ 20 = sym (length-map a.shots.class class_number) ∙ sym (ap length c.class_numbers.ensures) ∙ numbers in
    let fit = ground_fits f a (search rules) (search rules) class in
    record {
      stored =
          puts_join (ground_parts f a) ground_columns 324 424 refl fit
          (c.write_run.ensures
          ▸ ground
          ▸ c.write_run-3.ensures
          ▸ rw c.class_numbers.ensures at c.write_run-4.ensures
          ▸ stop);
      size = sized (ground_parts f a) ground_columns 324 100 424 refl refl fit;
    }
