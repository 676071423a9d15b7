-- The reader refuses, or the writer is given what was read.
use mathlib.Core.Path.{ap, sym, refl, ◌∙◌}
use Prim.Native.Nat.{ℕ}
use mathlib.Core.List.{List}
use lib.ListN.{take}
use Rattle.octets.specs.Bytes.{Octets}
use Rattle.octets.specs.Refusal.{say}
use Rattle.octets.proofs.Ladder.{after_refused, after_done, answer_said, refusal_said}
use Rattle.refusal.specs.Number.{number}
use Rattle.refusal.proofs.Said.{number_not_0, say_handed_on}
use Rattle.pedr_check.specs.Refusal.{record_refusal}
use Rattle.pedr_block.specs.Block.{block_of, carried_count}
use Rattle.pedr_block_runs.specs.Runs.{runs_of, no_runs}
use Rattle.pedr_block_runs.specs.Carried.{carried_of, no_carried}
use Rattle.pedr_arrays.specs.Arrays.{arrays_of, no_arrays}
use Rattle.pedr_arrays.specs.Uninterpreted.{uninterpreted_of, no_uninterpreted}
use Rattle.pedr_fields.specs.Fields.{fields_of}
use Rattle.pedr_writer.specs.Write.{write_due, write_bytes}
use Rattle.pedr_round_trip.proofs.WriteBack.{copy_refused, copy_number, copy_bytes}
use Rattle.pedr_round_trip.proofs.copy_record.Goals as goal

pub returns-in_err-read : goal.returns-in_err-read
returns-in_err-read c =
    let s : List ℕ = c.args.bytes.now in
    let out : List ℕ = c.args.out.now in
    let refusal = c.in_err-read.field-0.0 in
    let q = refusal_said _ (record_refusal s) (fields_of s, block_of s) c.in_err-read.ensures.fields in
    let e = copy_refused s out (number refusal) q.0 (number_not_0 refusal) in
    record {
      answer = say_handed_on _ _ _ tt c.from_residual.ensures e;
      bytes = after_refused _ _ s out e (number_not_0 refusal);
    }

pub returns : goal.returns
returns c =
    let s : List ℕ = c.args.bytes.now in
    let out : List ℕ = c.args.out.now in
    let p = c.in_ok-read in
    let q = answer_said (record_refusal s) (fields_of s, block_of s) _ p.ensures.fields in
    let arrays = p.ensures.arrays ∙ sym (after_done _ (arrays_of s) no_arrays (arrays_of s) q.0 refl) in
    let runs = p.ensures.runs ∙ sym (after_done _ (runs_of s) no_runs (runs_of s) q.0 refl) in
    let carried = p.ensures.carried ∙ sym (after_done _ (carried_of s) no_carried (carried_of s) q.0 refl) in
    let uninterpreted = p.ensures.uninterpreted ∙ sym (after_done _ (uninterpreted_of s) no_uninterpreted (uninterpreted_of s) q.0 refl) in
    let o : Octets s = λ i. (c.type_inv.bytes i).fits in
    let w = c.write_again.ensures in
    record {
      answer =
          w.answer ∙ (λ i. write_due (q.1 i).0 (q.1 i).1 (arrays i) (take (carried_count (q.1 i).1) (carried i)) (uninterpreted i) out)
          ∙ ap (λ (n : ℕ). say n tt) (copy_number s o q.0 out);
      bytes =
          w.bytes ∙ (λ i. write_bytes (q.1 i).0 (q.1 i).1 (arrays i) (runs i) (take (carried_count (q.1 i).1) (carried i)) (uninterpreted i) out)
          ∙ copy_bytes s o q.0 out;
    }
