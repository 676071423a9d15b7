-- The check program reads its input in chunks, each into a buffer of 213 pieces, and writes the lines of each chunk.
use Rattle.std.specs.Prelude.{ℕ, ◌+◌, ◌-◌, ◌*◌, ◌<◌, ◌≤◌, ◌^◌, ◌≡◌, cond, List, [], ◌∷◌, ◌++◌, ltb, length}
use Rattle.aedr.specs.Printed.{piece_size, piece_count, all_lines, total, printed}

-- the room that a line is given: a number of at most 20 digits, an answer of at most 2, and two more
abbrev pub line_room : ℕ
line_room = 24

-- the room that the closing line is given: a word of 8, a number of at most 20 digits, and one more
abbrev pub total_room : ℕ
total_room = 29

-- the pieces of a full chunk, its bytes, and the room for its lines
abbrev pub chunk_pieces : ℕ
chunk_pieces = 213

abbrev pub chunk_size : ℕ
chunk_size = chunk_pieces * piece_size

abbrev pub chunk_room : ℕ
chunk_room = chunk_pieces * line_room

-- the lines of the input's pieces, numbered from done + 1, where an output of `room` bytes has room for each and no number is over 2^64 - 1;
-- else nothing
unfoldable pub report : List ℕ → ℕ → ℕ → List ℕ
report input done room =
    cond (ltb room (line_room * piece_count input)) []
    (cond (ltb (2 ^ 64 - 1 - done) (piece_count input)) []
    (all_lines input done))

-- the closing line, where an output of `room` bytes has room for it; else nothing
unfoldable pub closing : ℕ → ℕ → List ℕ
closing n room = cond (ltb room total_room) [] (total n)

-- what the chunks have read, one after the other
abbrev pub whole : List (List ℕ) → List ℕ
whole [] = []
whole (c ∷ cs) = c ++ whole cs

-- what is written for the chunks, with `done` pieces before them, and the closing line
abbrev pub written : ℕ → List (List ℕ) → List ℕ
written done [] = closing done chunk_room
written done (c ∷ cs) = report c done chunk_room ++ written (done + piece_count c) cs

-- each chunk but the last fills the buffer
abbrev pub Filled : List (List ℕ) → Type 0
Filled [] = Unit
Filled (c ∷ []) = length c ≤ chunk_size
Filled (c ∷ (d ∷ cs)) = (length c ≡ chunk_size) × Filled (d ∷ cs)

-- what is written for the chunks is what is printed for the whole input
abbrev pub ChunksPrintTheWhole : Type 0
ChunksPrintTheWhole = (cs : List (List ℕ)) → Filled cs → piece_count (whole cs) < 2 ^ 64 → written 0 cs ≡ printed (whole cs)
