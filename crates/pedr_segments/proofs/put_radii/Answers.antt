-- The descriptor by two stores, then one for each column.
use mathlib.Core.Path.{◌≡◌, refl}
use lib.ListN.{length}
use mir.Syntax.{w32}
use Rattle.octets_writer.proofs.Signed.{signed_stored}
use Rattle.layout.proofs.Store.{stop, ◌▸◌, puts_join}
use borrow.Author.Rules.{rules}
use Rattle.pedr_segments.specs.Parts.{radii_parts}
use Rattle.pedr_segments.proofs.Fits.{radii_columns, radii_fits, sized}
use Rattle.pedr_segments.proofs.Stores.{descriptor_stored}
use Rattle.pedr_segments.proofs.put_radii.Goals as goal

pub returns : goal.returns
returns c =
    let f = c.args.fields.now in
    let s = c.args.shots.now in
    let radius : length s.radius ≡ 20 = search rules in
    let w = c.descriptor_words-descriptor.ensures in
    let fit = radii_fits f s radius in
    record {
      stored =
          puts_join (radii_parts f s) radii_columns 32 144 refl fit
          (descriptor_stored f.descriptor s.failures _ _ _ _ _ w.0 w.1 c.write_u64.ensures c.write_u64-2.ensures
          ▸ c.write_run.ensures
          ▸ c.write_u32.ensures
          ▸ signed_stored w32 4 32 f.pointing.right_ascension _ _ _ (search rules) c.write_i32.ensures
          ▸ signed_stored w32 4 32 f.pointing.declination _ _ _ (search rules) c.write_i32-2.ensures
          ▸ signed_stored w32 4 32 f.pointing.twist _ _ _ (search rules) c.write_i32-3.ensures
          ▸ stop);
      size = sized (radii_parts f s) radii_columns 32 112 144 refl refl fit;
    }
