-- Five stores, one for each column.
use mathlib.Core.Path.{refl}
use Rattle.layout.proofs.Store.{stop, ◌▸◌, puts_join}
use borrow.Author.Rules.{rules}
use Rattle.pedr_segments.specs.Parts.{pulse_parts}
use Rattle.pedr_segments.proofs.Fits.{pulse_columns, pulse_fits, sized}
use Rattle.pedr_segments.proofs.put_pulses.Goals as goal

pub returns : goal.returns
returns c =
    let s = c.args.shots.now in
    let fit = pulse_fits s (search rules) (search rules) (search rules) (search rules) (search rules) in
    record {
      stored =
          puts_join (pulse_parts s) pulse_columns 144 324 refl fit
          (c.write_run.ensures
          ▸ c.write_run-2.ensures
          ▸ c.write_u8s.ensures
          ▸ c.write_run-3.ensures
          ▸ c.write_run-4.ensures
          ▸ stop);
      size = sized (pulse_parts s) pulse_columns 144 180 324 refl refl fit;
    }
