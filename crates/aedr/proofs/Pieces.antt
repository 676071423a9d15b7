-- Laws of the pieces and their answers.
use Rattle.std.proofs.Common.{◌≡◌, ℕ, suc, ◌+◌, ◌-◌, ◌*◌, ◌<◌, ◌≤◌, min, List, ◌++◌, take, drop, length, sym, ap, ◌∙◌, arith, length-drop}
use Rattle.std.proofs.lemmas.List.{take_at, drop_at, take_min, drop_min, drop-drop}
use lib.Seq.{take_all}
use Rattle.packet_check.specs.Refusal.{read_refusal}
use Rattle.packet_layout.specs.SumWord.{published_sum_word}
use Rattle.aedr.specs.Printed.{piece_size, piece_count, header_size, piece, answer_of}

-- the packet of a piece
pub answer_packet : (p : List ℕ) (start n r : ℕ) → start ≡ min header_size (length p) → n ≡ length p - start
    → r ≡ read_refusal (take n (drop start p)) published_sum_word → r ≡ answer_of p
unfolding answer_of
answer_packet p start n r e f h =
    let d : drop start p ≡ drop header_size p = ap (λ (i : ℕ). drop i p) e ∙ drop_min header_size p in
    h ∙ ap (λ (z : List ℕ). read_refusal z published_sum_word) (take_all n (drop start p) (rw length-drop (omega arith)) ∙ d)

-- the first of the pieces that are left is piece k
first_piece : (all first others : List ℕ) → all ≡ first ++ others → length first ≡ min piece_size (length all)
    → (first ≡ take piece_size all) × (others ≡ drop piece_size all)
first_piece all first others p n = (
  sym (ap (take (min piece_size (length all))) p ∙ take_at first others _ n) ∙ take_min piece_size all,
  sym (ap (drop (min piece_size (length all))) p ∙ drop_at first others _ n) ∙ drop_min piece_size all,
)

pub piece_first : (input all first others : List ℕ) (k : ℕ) → all ≡ drop (piece_size * k) input → all ≡ first ++ others → length first ≡ min piece_size (length all)
    → (first ≡ piece input k) × (others ≡ drop (piece_size * suc k) input)
piece_first input all first others k e p n =
    let f = first_piece all first others p n in
    let m : piece_size * k + piece_size ≡ piece_size * suc k = omega arith in (
      f.0 ∙ ap (take piece_size) e,
      f.1 ∙ ap (drop piece_size) e ∙ drop-drop piece_size (piece_size * k) input ∙ ap (λ (i : ℕ). drop i input) m,
    )

-- and while some are left, it is one of them all
pub piece_counted : (input all : List ℕ) (k : ℕ) → all ≡ drop (piece_size * k) input → 0 < length all → k < piece_count input
piece_counted input all k e h = let d : length all ≡ length input - piece_size * k = ap length e ∙ length-drop (piece_size * k) input in omega arith

pub pieces_all : (input all : List ℕ) (k : ℕ) → all ≡ drop (piece_size * k) input → length all ≡ 0 → k ≤ piece_count input → k ≡ piece_count input
pieces_all input all k e z h = let d : length all ≡ length input - piece_size * k = ap length e ∙ length-drop (piece_size * k) input in omega arith
