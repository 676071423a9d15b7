-- Document 01, "Numbers to check by", Program: "cuts its input into 1,230-byte pieces, the last perhaps short (1), and prints each piece's
-- number and its answer by the published sum place (0 if accepted), then a total."
use Rattle.std.specs.Prelude.{ℕ, zero, suc, ◌+◌, ◌-◌, ◌*◌, ◌/◌, List, [], ◌∷◌, ◌++◌, length, drop}
use Rattle.octets.specs.Bytes.{part}
use Rattle.packet_layout.specs.SumWord.{published_sum_word}
use Rattle.packet_check.specs.Refusal.{read_refusal}
use Rattle.aedr.specs.Decimal.{decimal}

-- "An AEDR record has 1,230 bytes: 150 of transport header, carried unread, then the packet."
abbrev pub piece_size : ℕ
piece_size = 1230

abbrev pub header_size : ℕ
header_size = 150

-- how many pieces n bytes are cut into, and how many the input has
abbrev pub pieces_in : ℕ → ℕ
pieces_in n = (n + (piece_size - 1)) / piece_size

abbrev pub piece_count : List ℕ → ℕ
piece_count input = pieces_in (length input)

-- piece i of the input, from 0; the last is perhaps short
abbrev pub piece : List ℕ → ℕ → List ℕ
piece input i = part input (piece_size * i) piece_size

-- a piece's answer: the refusal of what stands after its header, or 0
unfoldable pub answer_of : List ℕ → ℕ
answer_of p = read_refusal (drop header_size p) published_sum_word

-- "number answer", and the end of the line
unfoldable pub line : ℕ → ℕ → List ℕ
line number answer = decimal number ++ (32 ∷ (decimal answer ++ (10 ∷ [])))

-- the lines of the first n pieces, the first of which has the number done + 1
unfoldable pub lines : List ℕ → ℕ → ℕ → List ℕ
lines input done zero = []
lines input done (suc n) = lines input done n ++ line (done + suc n) (answer_of (piece input n))

-- the lines of all the pieces
abbrev pub all_lines : List ℕ → ℕ → List ℕ
all_lines input done = lines input done (piece_count input)

-- "records n", and the end of the line
unfoldable pub total : ℕ → List ℕ
total n = 114 ∷ 101 ∷ 99 ∷ 111 ∷ 114 ∷ 100 ∷ 115 ∷ 32 ∷ (decimal n ++ (10 ∷ []))

-- all that is printed for an input
abbrev pub printed : List ℕ → List ℕ
printed input = all_lines input 0 ++ total (piece_count input)
