-- Two rungs of the ladder, then the values' own.
use mathlib.Core.Path.{◌≡◌, sym, ap, ◌∙◌}
use mir.Syntax.{w32}
use Rattle.numbers.proofs.Ranges.{held}
use Rattle.octets.specs.Refusal.{refusal_in}
use Rattle.octets.proofs.Ladder.{rungs}
use Rattle.refusal.specs.Number.{said}
use Rattle.layout.specs.Column.{value}
use Rattle.pedr_layout.specs.Layout.{quality_number, quality_counter, time_micros, latitude, frame_index}
use Rattle.pedr_flags.specs.Quality.{good_count}
use Rattle.pedr_check.specs.Refusal.{values_refusal, record_refusal}
use Rattle.pedr_check.proofs.check_record.Goals as goal

pub returns-then-bytes-ne-RECORD_SIZE : goal.returns-then-bytes-ne-RECORD_SIZE
unfolding record_refusal
returns-then-bytes-ne-RECORD_SIZE c = search rungs depth 10

pub returns-then-good-u8_at : goal.returns-then-good-u8_at
unfolding record_refusal
returns-then-good-u8_at c =
    let s = c.args.bytes.now in
    let good : c.good_count-good.result ≡ good_count (value s quality_number) =
    c.good_count-good.ensures ∙ ap good_count c.u24_at.ensures in
    let n : good_count (value s quality_number) ≡ value s quality_counter → ⊥ =
    λ e. c.if-good-u8_at.true (good ∙ e ∙ sym c.u8_at.ensures) in
    search rungs depth 10

pub returns : goal.returns
unfolding record_refusal
returns c =
    let s = c.args.bytes.now in
    let good : c.good_count-good.result ≡ good_count (value s quality_number) =
    c.good_count-good.ensures ∙ ap good_count c.u24_at.ensures in
    let q : good_count (value s quality_number) ≡ value s quality_counter =
    sym good ∙ c.if-good-u8_at.false ∙ c.u8_at.ensures in
    let micros = c.i32_at-micros in
    let lat = c.i32_at-latitude in
    let m = held w32 micros.type_inv micros.ensures in
    let l = held w32 lat.type_inv lat.ensures in
    let v : refusal_in (said c.check_values.result) ≡ values_refusal (value s time_micros) (value s latitude) (value s frame_index) =
    c.check_values.ensures ∙ (λ i. values_refusal (m i) (l i) (c.u16_at.ensures i)) in
    search rungs depth 10
