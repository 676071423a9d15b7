-- One law of copies that are cut to the room.
use Rattle.std.proofs.Common.{sym, ◌∙◌, arith, take_all}
use Rattle.octets.proofs.Store.{store_cut}
use Rattle.octets.proofs.write_into.Goals as goal

pub returns-then-bytes-room : goal.returns-then-bytes-room
returns-then-bytes-room c =
    let a = c.args in
    let b = a.bytes.now in
    store_cut b a.out.now _ a.i _ _ c.min-from.ensures (omega arith) (c.copy.ensures ∙ sym (take_all _ b (omega arith)))

pub returns-else-bytes-room : goal.returns-else-bytes-room
returns-else-bytes-room c =
    let a = c.args in
    let b = a.bytes.now in
    store_cut b a.out.now _ a.i _ _ c.min-from.ensures (omega arith) c.copy-else-bytes-room.ensures
