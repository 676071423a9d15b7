-- The parts of a record fit its columns.
use Prim.Native.Nat.{ℕ}
use mathlib.Core.Path.{◌≡◌, ◌∙◌}
use mathlib.Core.List.{List, map}
use native.Mathlib.Omega.{arith}
use lib.ListN.{length, drop, length-map, length-drop}
use lib.Seq.{length-take-le}
use Rattle.layout.specs.Column.{Column, unsigned}
use Rattle.layout.proofs.Cover.{Fit, done, ◌▹◌, fit_append}
use Rattle.pedr_layout.specs.Layout.{record_columns}
use Rattle.pedr_flags.specs.declared.Encoder.{Encoder}
use Rattle.pedr_flags_writer.specs.Encoder.{encoder_byte}
use Rattle.pedr_arrays.specs.declared.RecordArrays.{RecordArrays}
use Rattle.pedr_fields.specs.declared.RecordFields.{RecordFields}
use Rattle.pedr_block.specs.declared.Block.{Block}
use Rattle.pedr_block_runs.specs.declared.BlockRuns.{BlockRuns}
use Rattle.pedr_block_writer.specs.Rows.{block_octets}
use Rattle.pedr_segments.proofs.Fits.{Sizes, run, head_fits, radii_fits, pulse_fits, ground_fits, gate_fits, receiver_fits, link_fits}
use Rattle.pedr_writer.specs.Record.{tail_parts, record_parts}

abbrev pub tail_columns : List Column
tail_columns = drop 39 record_columns

pub tail_fits : (es : List Encoder) (x : List ℕ) → length es ≡ 20 → length x ≡ 220 → Fit (tail_parts es x) tail_columns
tail_fits es x le lx =
    let after : length (drop 84 x) ≡ 136 = length-drop 84 x ∙ omega arith in
    length-take-le 84 x (omega arith)
    ▹ run unsigned 1 20 (map encoder_byte es) (length-map es encoder_byte ∙ le)
    ▹ after
    ▹ done

pub record_fits : (f : RecordFields) (b : Block) (a : RecordArrays) (r : BlockRuns) (c x : List ℕ) → Sizes a → length (block_octets b r c) ≡ 28 → length x ≡ 220
    → Fit (record_parts f b a r c x) record_columns
record_fits f b a r c x z n l =
    let s = z.shots in
    fit_append (head_fits f)
    (fit_append (radii_fits f a.shots s.radius)
    (fit_append (pulse_fits a.shots s.energy s.reflectivity s.trigger_channel s.pulse_width s.optical_width)
    (fit_append (ground_fits f a z.xyz s.laser_power s.class)
    (fit_append (gate_fits f a.channels z.noise z.thresholds)
    (fit_append (receiver_fits f)
    (fit_append (link_fits f a.source_header z.source_header)
    (n ▹ tail_fits a.shots.encoder x s.encoder l)))))))
