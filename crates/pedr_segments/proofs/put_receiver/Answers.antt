-- Six stores, one for each column.
use mathlib.Core.Path.{refl}
use Rattle.layout.proofs.Store.{stop, ◌▸◌, puts_join}
use Rattle.pedr_segments.specs.Parts.{receiver_parts}
use Rattle.pedr_segments.proofs.Fits.{receiver_columns, receiver_fits, sized}
use Rattle.pedr_segments.proofs.put_receiver.Goals as goal

pub returns : goal.returns
returns c =
    let f = c.args.fields.now in
    let fit = receiver_fits f in
    record {
      stored =
          puts_join (receiver_parts f) receiver_columns 480 492 refl fit
          (c.write_u16.ensures
          ▸ c.write_u16-2.ensures
          ▸ c.write_u16-3.ensures
          ▸ c.write_u16-4.ensures
          ▸ c.write_u16-5.ensures
          ▸ c.write_u16-6.ensures
          ▸ stop);
      size = sized (receiver_parts f) receiver_columns 480 12 492 refl refl fit;
    }
