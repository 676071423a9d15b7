-- The arrays and bytes beside a refusal are zeros, the numbers of its classes too.
use Prim.Native.Nat.{ℕ}
use mathlib.Core.Path.{◌≡◌, refl, ◌∙◌}
use mathlib.Core.List.{List}
use Rattle.octets.specs.Refusal.{refused}
use Rattle.octets.proofs.Ladder.{say_refused, after_refused}
use Rattle.pedr_fields.specs.Fields.{fields_of}
use Rattle.pedr_fields.specs.declared.RecordFields.{RecordFields}
use Rattle.pedr_block.specs.declared.Block.{Block}
use Rattle.pedr_arrays.specs.Arrays.{arrays_of, no_arrays}
use Rattle.pedr_arrays.specs.Uninterpreted.{uninterpreted_of, no_uninterpreted}
use Rattle.pedr_check.specs.Refusal.{record_refusal}
use Rattle.pedr.specs.Read.{read_due, read_arrays, read_runs, read_carried, read_uninterpreted}
use Rattle.pedr_block.specs.Block.{block_of}
use Rattle.pedr_block_runs.specs.Runs.{runs_of, no_runs}
use Rattle.pedr_block_runs.specs.Carried.{carried_of, no_carried}
use Rattle.pedr_c.specs.Refused.{no_numbers, refused_record}
use Rattle.pedr_c.specs.Numbers.{shot_numbers, array_numbers, record_numbers}

numbers_none : (n : ℕ) → refused_record n ≡ record_numbers (refused n) no_arrays no_runs no_carried no_uninterpreted
unfolding refused_record no_numbers array_numbers shot_numbers no_arrays no_carried no_uninterpreted
numbers_none n = refl

-- the numbers of a record that is refused with n
pub refused_zeros : (s : List ℕ) (n : ℕ) → n ≡ record_refusal s → (n ≡ 0 → ⊥)
    → refused_record n ≡ record_numbers (read_due s) (read_arrays s) (read_runs s) (read_carried s) (read_uninterpreted s)
refused_zeros s n e ne =
    let d = say_refused {A = RecordFields × Block} n (record_refusal s) (fields_of s, block_of s) e ne in
    let a = after_refused n (record_refusal s) (arrays_of s) no_arrays e ne in
    let r = after_refused n (record_refusal s) (runs_of s) no_runs e ne in
    let c = after_refused n (record_refusal s) (carried_of s) no_carried e ne in
    let u = after_refused n (record_refusal s) (uninterpreted_of s) no_uninterpreted e ne in
    numbers_none n ∙ (λ i. record_numbers (d i) (a i) (r i) (c i) (u i))
