-- Four stores, one for each column.
use mathlib.Core.Path.{refl}
use mir.Syntax.{w16, w32}
use Rattle.pedr_segments.specs.Parts.{link_parts}
use Rattle.pedr_segments.proofs.Fits.{link_columns, link_fits, sized}
use Rattle.octets_writer.proofs.Signed.{signed_stored}
use Rattle.layout.proofs.Store.{stop, ◌▸◌, puts_join}
use borrow.Author.Rules.{rules}
use Rattle.pedr_segments.proofs.put_link.Goals as goal

pub returns : goal.returns
returns c =
    let f = c.args.fields.now in
    let h = c.args.source_header.now in
    let fit = link_fits f h c.told-source_header in
    record {
      stored =
          puts_join (link_parts f h) link_columns 492 508 refl fit
          (c.write_run.ensures
          ▸ signed_stored w32 4 32 f.link.seconds _ _ _ (search rules) c.write_i32.ensures
          ▸ signed_stored w16 2 16 f.link.millis _ _ _ (search rules) c.write_i16.ensures
          ▸ c.write_u16.ensures
          ▸ stop);
      size = sized (link_parts f h) link_columns 492 16 508 refl refl fit;
    }
