-- What is said, and what stands beside it, by the ladder's number.
use mathlib.Core.Path.{◌≡◌, refl, sym, ap, ◌∙◌}
use Rattle.octets.specs.Refusal.{refusal_in}
use Rattle.octets.proofs.Ladder.{say_answered, after_done}
use Rattle.pedr_fields.specs.Fields.{fields_of}
use Rattle.pedr_fields.specs.declared.RecordFields.{RecordFields}
use Rattle.pedr_block.specs.declared.Block.{Block}
use Rattle.pedr_arrays.specs.Arrays.{arrays_of, no_arrays}
use Rattle.pedr_arrays.specs.Uninterpreted.{uninterpreted_of, no_uninterpreted}
use Rattle.pedr_block.specs.Block.{block_of}
use Rattle.pedr_block_runs.specs.Runs.{runs_of, no_runs}
use Rattle.pedr_block_runs.specs.Carried.{carried_of, no_carried}
use Rattle.refusal.specs.Number.{number}
use Rattle.refusal.proofs.Said.{number_not_0}
use Rattle.pedr_check.specs.Refusal.{record_refusal}
use Rattle.pedr_c.specs.Refused.{refused_record}
use Rattle.pedr_c.specs.Numbers.{fields_in, block_in, array_numbers}
use Rattle.pedr_c.proofs.Refused.{refused_zeros}
use Rattle.pedr_c.proofs.read_record.Goals as goal

pub returns-in-Err : goal.returns-in-Err
returns-in-Err c =
    let s = c.args.bytes.now in
    let h : number c.in-Err.refusal ≡ record_refusal s = c.in-Err.ensures in
    c.refused_record.ensures ∙ ap refused_record (c.from.ensures) ∙ refused_zeros s _ h (number_not_0 c.in-Err.refusal)

pub returns : goal.returns
returns c =
    let b = c in
    let s = b.args.bytes.now in
    let z : record_refusal s ≡ 0 = sym c.in_default.ensures in
    let f = c.read_fields-fields.ensures in
    let d = say_answered {A = RecordFields × Block} _ (fields_of s, block_of s) (c.read_fields-fields.result, block_of s) z (λ i. (f i, block_of s)) in
    let n = c.read_block-block.ensures in
    let a = c.read_arrays-arrays.ensures ∙ ap array_numbers (after_done _ (arrays_of s) no_arrays _ z refl) in
    λ i. record {
      refusal = ap refusal_in d i;
      fields = ap fields_in d i;
      block = (n ∙ ap block_in d) i;
      arrays = a i;
      runs = after_done _ (runs_of s) no_runs _ z c.read_runs-runs.ensures i;
      carried = after_done _ (carried_of s) no_carried _ z c.read_carried-carried.ensures i;
      uninterpreted = after_done _ (uninterpreted_of s) no_uninterpreted _ z c.read_uninterpreted-uninterpreted.ensures i;
    }
