-- The case of an accepted record is its frame index.
use Prim.Native.Nat.{ℕ}
use mathlib.Core.Path.{sym, ap, ◌∙◌}
use mathlib.Core.List.{List}
use Rattle.octets.proofs.Ladder.{after_refused, after_done, answer_said, refusal_said}
use Rattle.layout.specs.Column.{value}
use Rattle.pedr_layout.specs.Layout.{frame_index}
use Rattle.pedr_fields.specs.Fields.{fields_of}
use Rattle.pedr_fields.specs.declared.RecordFields.{RecordFields}
use Rattle.pedr_block.specs.Block.{block_of, frame_number}
use Rattle.pedr_block.specs.declared.Block.{Block}
use Rattle.pedr_block.proofs.Frame.{case_is_index}
use Rattle.pedr_check.proofs.Accept.{accepted}
use Rattle.pedr_laws.proofs.frame_read.Goals as goal

pub returns-in-Err : goal.returns-in-Err
returns-in-Err c =
    let s : List ℕ = c.args.bytes.now in
    let q = refusal_said {A = RecordFields × Block} _ _ (fields_of s, block_of s) c.in-Err.ensures.fields in
    after_refused _ _ (value s frame_index) 0 q.0 (λ z. q.1 (sym q.0 ∙ z))

pub returns-in-Ok : goal.returns-in-Ok
returns-in-Ok c =
    let s : List ℕ = c.args.bytes.now in
    let q = answer_said {A = RecordFields × Block} _ (fields_of s, block_of s) _ c.in-Ok.ensures.fields in
    let i = (accepted s q.0).index in
    after_done _ (value s frame_index) 0 _ q.0
    (c.frame_number.ensures ∙ ap (λ (x : RecordFields × Block). frame_number x.1) q.1 ∙ case_is_index s i.0 i.1)
