-- Three stores, one for each column.
use mathlib.Core.Path.{refl}
use Rattle.layout.proofs.Store.{stop, ◌▸◌, puts_join}
use Rattle.pedr_segments.proofs.Fits.{sized}
use Rattle.pedr_writer.specs.Record.{tail_parts}
use Rattle.pedr_writer.proofs.Fits.{tail_columns, tail_fits}
use Rattle.pedr_writer.proofs.put_tail.Goals as goal

pub returns : goal.returns
returns c =
    let x = c.args.uninterpreted.now in
    let es = c.args.encoders.now in
    let fit = tail_fits es x c.told-encoders c.requires in
    record {
      stored =
          puts_join (tail_parts es x) tail_columns 536 776 refl fit
          (rw c.split_at.ensures.front at c.write_into.ensures
          ▸ rw c.encoder_bytes.ensures at c.write_u8s.ensures
          ▸ rw c.split_at.ensures.back at c.write_into-2.ensures
          ▸ stop);
      size = sized (tail_parts es x) tail_columns 536 240 776 refl refl fit;
    }
