-- Four stores, one for each column.
use mathlib.Core.Path.{refl}
use Rattle.layout.proofs.Store.{stop, ◌▸◌, puts_join}
use borrow.Author.Rules.{rules}
use Rattle.pedr_segments.specs.Parts.{gate_parts}
use Rattle.pedr_segments.proofs.Fits.{gate_columns, gate_fits, sized}
use Rattle.pedr_segments.proofs.put_gate.Goals as goal

pub returns : goal.returns
returns c =
    let f = c.args.fields.now in
    let a = c.args.channels.now in
    let fit = gate_fits f a (search rules) (search rules) in
    record {
      stored =
          puts_join (gate_parts f a) gate_columns 424 480 refl fit
          (c.write_run.ensures
          ▸ c.write_u32.ensures
          ▸ c.write_u32-2.ensures
          ▸ c.write_run-2.ensures
          ▸ stop);
      size = sized (gate_parts f a) gate_columns 424 56 480 refl refl fit;
    }
