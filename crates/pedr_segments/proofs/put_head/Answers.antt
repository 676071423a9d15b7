-- Eight stores, the last for the quality number and its counter.
use mathlib.Core.Path.{refl}
use mir.Syntax.{w32}
use Rattle.octets_writer.proofs.Signed.{signed_stored}
use Rattle.layout.proofs.Store.{stop, ◌▸◌, puts_join}
use borrow.Author.Rules.{rules}
use Rattle.pedr_segments.specs.Parts.{head_parts}
use Rattle.pedr_segments.proofs.Fits.{head_columns, head_fits, sized}
use Rattle.pedr_segments.proofs.Stores.{quality_stored}
use Rattle.pedr_segments.proofs.put_head.Goals as goal

pub returns : goal.returns
returns c =
    let f = c.args.fields.now in
    let fit = head_fits f in
    record {
      stored =
          puts_join (head_parts f) head_columns 0 32 refl fit
          (signed_stored w32 4 32 f.time.whole _ _ _ (search rules) c.write_i32.ensures
          ▸ signed_stored w32 4 32 f.time.micros _ _ _ (search rules) c.write_i32-2.ensures
          ▸ c.write_u32.ensures
          ▸ signed_stored w32 4 32 f.position.latitude _ _ _ (search rules) c.write_i32-3.ensures
          ▸ signed_stored w32 4 32 f.position.longitude _ _ _ (search rules) c.write_i32-4.ensures
          ▸ c.write_u32-2.ensures
          ▸ c.write_u32-3.ensures
          ▸ refl
          ▸ quality_stored f.quality _ _ _ c.quality_word.ensures c.write_u32-4.ensures
          ▸ stop);
      size = sized (head_parts f) head_columns 0 32 32 refl refl fit;
    }
