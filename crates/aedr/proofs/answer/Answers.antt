-- The packet after the header.
use Rattle.std.proofs.Common.{◌-◌, length, refl}
use Rattle.aedr.proofs.Pieces.{answer_packet}
use Rattle.aedr.proofs.answer.Goals as goal

pub returns : goal.returns
returns c =
    let p = c.args.piece.now in
    let s = c.min-start in answer_packet p s.result (length p - s.result) _ s.ensures refl c.check_packet.ensures
