-- The writer's number and bytes, of the block and the arrays that the numbers stand for.
use mathlib.Core.Path.{ap, ◌∙◌}
use Rattle.octets.specs.Refusal.{refusal_in}
use Rattle.octets.proofs.Ladder.{number_say}
use Rattle.pedr_write_refusal.specs.Refusal.{write_refusal}
use Rattle.pedr_writer.specs.Write.{write_bytes}
use Rattle.pedr_write_c.proofs.write_record.Goals as goal

pub returns : goal.returns
returns c =
    let a = c.args in
    let w = c.write_record.ensures in
    let d = c.block_of.ensures in
    let e = c.arrays_of.ensures in (
      c.number_of.ensures ∙ ap refusal_in w.answer ∙ number_say _ tt
          ∙ (λ i. write_refusal a.fields (d i) (e i) a.carried.now a.uninterpreted.now a.out.now),
      w.bytes ∙ (λ i. write_bytes a.fields (d i) (e i) a.runs a.carried.now a.uninterpreted.now a.out.now),
    )
