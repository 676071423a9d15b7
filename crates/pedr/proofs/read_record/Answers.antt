-- What is said, part by part, by the ladder's number.
use mathlib.Core.Path.{◌≡◌, sym, ap, ◌∙◌}
use Rattle.octets.proofs.Ladder.{say_refused, say_answered, after_refused, after_done}
use Rattle.refusal.specs.Number.{number}
use Rattle.refusal.proofs.Said.{handed_on, number_not_0}
use Rattle.pedr_check.specs.Refusal.{record_refusal}
use Rattle.pedr_fields.specs.Fields.{fields_of}
use Rattle.pedr_block.specs.Block.{block_of}
use Rattle.pedr_block_runs.specs.Runs.{runs_of, no_runs}
use Rattle.pedr_block_runs.specs.Carried.{carried_of, no_carried}
use Rattle.pedr_arrays.specs.Arrays.{arrays_of, no_arrays}
use Rattle.pedr_arrays.specs.Uninterpreted.{uninterpreted_of, no_uninterpreted}
use Rattle.pedr.specs.Read.{fields_in, arrays_in, runs_in, carried_in, uninterpreted_in}
use Rattle.pedr.proofs.read_record.Goals as goal

pub returns-in_err-check_record : goal.returns-in_err-check_record
returns-in_err-check_record c =
    let s = c.args.bytes.now in
    let refusal = c.in_err-check_record.field-0.0 in
    let e : number refusal ≡ record_refusal s = c.in_err-check_record.ensures in
    let n = number_not_0 refusal in
    let r = handed_on c.from_residual.result refusal c.from_residual.ensures in
    record {
      fields = ap fields_in r ∙ say_refused _ _ (fields_of s, block_of s) e n;
      arrays = ap arrays_in r ∙ after_refused _ _ (arrays_of s) no_arrays e n;
      runs = ap runs_in r ∙ after_refused _ _ (runs_of s) no_runs e n;
      carried = ap carried_in r ∙ after_refused _ _ (carried_of s) no_carried e n;
      uninterpreted = ap uninterpreted_in r ∙ after_refused _ _ (uninterpreted_of s) no_uninterpreted e n;
    }

pub returns : goal.returns
returns c =
    let s = c.args.bytes.now in
    let z : record_refusal s ≡ 0 = sym c.in_ok-check_record.ensures in
    let f = c.read_fields.ensures in
    let b = c.read_block.ensures in
    record {
      fields = say_answered _ (fields_of s, block_of s) _ z (λ i. (f i, b i));
      arrays = after_done _ (arrays_of s) no_arrays _ z c.read_arrays.ensures;
      runs = after_done _ (runs_of s) no_runs _ z c.read_runs.ensures;
      carried = after_done _ (carried_of s) no_carried _ z c.read_carried.ensures;
      uninterpreted = after_done _ (uninterpreted_of s) no_uninterpreted _ z c.read_uninterpreted.ensures;
    }
