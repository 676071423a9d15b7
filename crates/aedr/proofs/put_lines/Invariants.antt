-- The lines of the pieces so far stand in the output; the pieces after them are left.
use Rattle.std.proofs.Common.{◌≡◌, ◌-◌, ◌*◌, ◌≤◌, length, drop}
use Rattle.std.specs.Slice.Iter.{chunks_rest, chunks_size}
use Rattle.aedr.specs.Printed.{piece_size, piece_count, lines}
use Rattle.aedr.specs.Chunks.{line_room}
use Rattle.aedr.specs.Text.{TextAt}
use Rattle.aedr.proofs.put_lines.Given as goal

abbrev pub invariant-loop-piece : goal.invariant-loop-piece
invariant-loop-piece l = record {
  next : goal.iterator-loop-piece.can_next l.piece-iterator;
  finite : goal.iterator-loop-piece.is_finite l.piece-iterator;
  size : chunks_size l.piece-iterator ≡ piece_size;
  rest : chunks_rest l.piece-iterator ≡ drop (piece_size * (l.number - l.done)) l.input;
  low : l.done ≤ l.number;
  high : l.number - l.done ≤ piece_count l.input;
  room : l.at ≤ line_room * (l.number - l.done);
  kept : length l.out ≡ length l.initial.out;
  text : TextAt l.initial.out 0 (lines l.input l.done (l.number - l.done)) l.at l.out;
}
