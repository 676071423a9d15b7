-- What is said, and the bytes then in the output, by the ladder's number.
use mathlib.Core.Path.{◌≡◌, refl, sym}
use lib.ListN.{length}
use Rattle.octets.proofs.Ladder.{say_answered, after_refused, after_done}
use Rattle.refusal.specs.Number.{number}
use Rattle.refusal.proofs.Said.{number_not_0, say_handed_on}
use Rattle.pedr_write_refusal.specs.Refusal.{write_refusal}
use Rattle.pedr_write_refusal.proofs.Accept.{Writable, writable}
use Rattle.pedr_writer.specs.Record.{record_of}
use Rattle.pedr_writer.proofs.write_record.Goals as goal

pub returns-in_err-check_write : goal.returns-in_err-check_write
returns-in_err-check_write c =
    let g = c.args.given.now in
    let out = c.args.out.now in
    let refusal = c.in_err-check_write.field-0.0 in
    let written = record_of g.fields.now g.block.now g.arrays.now g.runs.now g.carried.now g.uninterpreted.now in
    let e : number refusal ≡ write_refusal g.fields.now g.block.now g.arrays.now g.carried.now g.uninterpreted.now out = c.in_err-check_write.ensures in
    record {
      answer = say_handed_on _ _ _ tt c.from_residual.ensures e;
      bytes = after_refused _ _ written out e (number_not_0 refusal);
    }

pub put_record-requires : goal.put_record-requires
put_record-requires c =
    let g = c.args.given.now in
    -- past the test the writer may write
    let m : Writable g.fields.now g.block.now g.arrays.now g.carried.now g.uninterpreted.now × (length c.args.out.now ≡ 776) =
    writable _ _ _ _ _ _ (sym c.in_ok-check_write.ensures) in
    (m.0.bytes, m.1)

pub returns : goal.returns
returns c =
    let g = c.args.given.now in
    let out = c.args.out.now in
    let z : write_refusal g.fields.now g.block.now g.arrays.now g.carried.now g.uninterpreted.now out ≡ 0 = sym c.in_ok-check_write.ensures in
    record {
      answer = say_answered _ tt tt z refl;
      bytes = after_done _ (record_of g.fields.now g.block.now g.arrays.now g.runs.now g.carried.now g.uninterpreted.now) out _ z c.put_record.ensures;
    }
