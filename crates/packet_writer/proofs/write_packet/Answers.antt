-- What is said, and the bytes then in the output, by the ladder's number.
use Rattle.std.proofs.Common.{◌≡◌, refl, sym, arith}
use Rattle.octets.proofs.Ladder.{say_answered, after_refused, after_done}
use Rattle.refusal.specs.Number.{number}
use Rattle.refusal.proofs.Said.{number_not_0, say_handed_on}
use Rattle.packet_writer.specs.Write.{write_refusal, packet_of}
use Rattle.packet_writer.proofs.Accept.{Writable, writable, summed}
use Rattle.packet_writer.proofs.write_packet.Goals as goal

pub returns-in_err-check_write : goal.returns-in_err-check_write
returns-in_err-check_write c =
    let a = c.args in
    let p = a.packet.now in
    let r = c.in_err-check_write.field-0.0 in
    let q : number r ≡ write_refusal p.fields a.carried.now a.sum_word a.out.now = c.in_err-check_write.ensures in
    (say_handed_on _ _ _ tt c.from_residual.ensures q, after_refused _ _ (packet_of p.fields p.arrays a.carried.now a.sum_word) a.out.now q (number_not_0 r))

pub write_unsummed-requires : goal.write_unsummed-requires
write_unsummed-requires c = let m : Writable c.args.packet.now.fields c.args.carried.now c.args.sum_word c.args.out.now = writable _ _ _ _ (sym c.in_ok-check_write.ensures) in (m.count, m.carries, m.room)

pub overflow_mul-sum_word : goal.overflow_mul-sum_word
overflow_mul-sum_word c = let m : Writable c.args.packet.now.fields c.args.carried.now c.args.sum_word c.args.out.now = writable _ _ _ _ (sym c.in_ok-check_write.ensures) in omega (arith, m.to)

pub returns : goal.returns
returns c =
    let a = c.args in
    let p = a.packet.now in
    let z : write_refusal p.fields a.carried.now a.sum_word a.out.now ≡ 0 = sym c.in_ok-check_write.ensures in
    let summed = summed p.fields p.arrays a.carried.now a.sum_word _ _ _ _ c.write_unsummed.ensures c.packet_sum.ensures refl c.write_u16.ensures in
    (say_answered _ tt tt z refl, after_done _ (packet_of p.fields p.arrays a.carried.now a.sum_word) a.out.now _ z summed)
