-- The writer refuses, or the reader is given what was written.
use mathlib.Core.Path.{ap, sym, refl, ◌∙◌}
use Prim.Native.Nat.{ℕ}
use mathlib.Core.List.{List}
use Rattle.octets.proofs.Ladder.{say_refused, say_answered, after_refused, after_done, answer_said, refusal_said}
use Rattle.refusal.proofs.Said.{handed_on, number_not_0}
use Rattle.pedr_arrays.specs.Arrays.{no_arrays}
use Rattle.pedr_arrays.specs.Uninterpreted.{no_uninterpreted}
use Rattle.pedr.specs.Read.{fields_in, arrays_in, runs_in, carried_in, uninterpreted_in, read_due, read_arrays, read_runs, read_carried, read_uninterpreted}
use Rattle.pedr_block_runs.specs.Runs.{no_runs}
use Rattle.pedr_block_runs.specs.Carried.{no_carried}
use Rattle.pedr_block_round_trip.specs.Kept.{kept_runs, kept_carried}
use Rattle.pedr_write_refusal.specs.Refusal.{write_refusal}
use Rattle.pedr_writer.specs.Record.{record_of}
use Rattle.pedr_round_trip.specs.RoundTrip.{counted}
use Rattle.pedr_round_trip.proofs.ReadBack.{read_back}
use Rattle.pedr_round_trip.proofs.write_and_read.Goals as goal

pub returns-in_err-write_record : goal.returns-in_err-write_record
returns-in_err-write_record c =
    let g = c.args.given.now in
    let refusal = c.in_err-write_record.field-0.0 in
    let r = handed_on c.from_residual.result refusal c.from_residual.ensures in
    let q = refusal_said _ (write_refusal g.fields.now g.block.now g.arrays.now g.carried.now g.uninterpreted.now c.args.out.now) tt c.in_err-write_record.ensures.answer in
    let n = number_not_0 refusal in
    record {
      fields = ap fields_in r ∙ say_refused _ _ (counted g.fields.now, g.block.now) q.0 n;
      arrays = ap arrays_in r ∙ after_refused _ _ g.arrays.now no_arrays q.0 n;
      runs = ap runs_in r ∙ after_refused _ _ (kept_runs g.block.now g.runs.now) no_runs q.0 n;
      carried = ap carried_in r ∙ after_refused _ _ (kept_carried g.carried.now) no_carried q.0 n;
      uninterpreted = ap uninterpreted_in r ∙ after_refused _ _ g.uninterpreted.now no_uninterpreted q.0 n;
      bytes = c.write_record.ensures.bytes;
    }

pub returns : goal.returns
returns c =
    let g = c.args.given.now in
    let f = g.fields.now in
    let b = g.block.now in
    let a = g.arrays.now in
    let y : List ℕ = g.carried.now in
    let x : List ℕ = g.uninterpreted.now in
    let q = answer_said (write_refusal f b a y x c.args.out.now) tt _ c.in_ok-write_record.ensures.answer in
    let s : List ℕ = record_of f b a g.runs.now y x in
    let e = c.write_record.ensures.bytes ∙ sym (after_done _ s c.args.out.now s q.0 refl) in
    let t = read_back f b a g.runs.now y x c.args.out.now c.type_fields.ensures c.type_block.ensures c.type_arrays.ensures q.0 in
    let r = c.read_record.ensures in
    record {
      fields = r.fields ∙ ap read_due e ∙ t.0 ∙ say_answered _ (counted f, b) (counted f, b) q.0 refl;
      arrays = r.arrays ∙ ap read_arrays e ∙ t.1 ∙ after_done _ a no_arrays a q.0 refl;
      runs = r.runs ∙ ap read_runs e ∙ t.2 ∙ after_done _ (kept_runs b g.runs.now) no_runs (kept_runs b g.runs.now) q.0 refl;
      carried = r.carried ∙ ap read_carried e ∙ t.3 ∙ after_done _ (kept_carried y) no_carried (kept_carried y) q.0 refl;
      uninterpreted = r.uninterpreted ∙ ap read_uninterpreted e ∙ t.4 ∙ after_done _ x no_uninterpreted x q.0 refl;
      bytes = c.write_record.ensures.bytes;
    }
