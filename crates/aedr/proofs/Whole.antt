-- The lines of an input that is read in chunks.
use Prim.Native.Nat.{ℕ, zero, suc, ◌+◌, ◌*◌, ◌<◌, ◌≤◌, ◌^◌}
use mathlib.Core.Path.{◌≡◌, refl, sym, ap, ap₂, ◌∙◌}
use mathlib.Core.List.{List, [], ◌∷◌, ◌++◌, append-nil, append_assoc}
use native.Mathlib.Omega.{arith}
use lib.ListN.{length, take, drop, length-append, length-drop}
use lib.Seq.{take-append-le, drop-append-le, drop-append-add}
use Rattle.aedr.specs.Printed.{piece_size, piece_count, lines, all_lines, total}
use Rattle.aedr.specs.Chunks.{chunk_pieces, chunk_size, chunk_room, report, whole, written, Filled, ChunksPrintTheWhole}
use Rattle.aedr.proofs.Reports.{report_lines, closing_total}

-- the pieces of the first part are those of the whole
lines_front : (xs ys : List ℕ) (done j : ℕ) → piece_size * j ≤ length xs → lines (xs ++ ys) done j ≡ lines xs done j
unfolding lines
lines_front xs ys done zero h = refl
lines_front xs ys done (suc j) h =
    let d : drop (piece_size * j) (xs ++ ys) ≡ drop (piece_size * j) xs ++ ys = drop-append-le (piece_size * j) xs ys (omega arith) in
    let t : take piece_size (drop (piece_size * j) xs ++ ys) ≡ take piece_size (drop (piece_size * j) xs) = take-append-le piece_size (drop (piece_size * j) xs) ys (rw length-drop (omega arith)) in
    rw (lines_front xs ys done j (omega arith), d, t)

-- the lines of a first part of j whole pieces, then those of the rest
pub lines_parts : (xs ys : List ℕ) (done j m : ℕ) → length xs ≡ piece_size * j
    → lines (xs ++ ys) done (j + m) ≡ lines xs done j ++ lines ys (done + j) m
unfolding lines
lines_parts xs ys done j zero h =
    let e : j + 0 ≡ j = omega arith in
    rw (e, lines_front xs ys done j (omega arith), append-nil)
lines_parts xs ys done j (suc m) h =
    let e : j + suc m ≡ suc (j + m) = omega arith in
    let f : done + suc (j + m) ≡ done + j + suc m = omega arith in
    let g : piece_size * (j + m) ≡ length xs + piece_size * m = omega arith in
    let d : drop (piece_size * (j + m)) (xs ++ ys) ≡ drop (piece_size * m) ys = ap (λ (k : ℕ). drop k (xs ++ ys)) g ∙ drop-append-add xs ys (piece_size * m) in
    rw (e, d, lines_parts xs ys done j m h, f, append_assoc)

-- a chunk's report is not refused
pub chunk_lines : (c : List ℕ) (done : ℕ) → length c ≤ chunk_size → done + piece_count c < 2 ^ 64 → report c done chunk_room ≡ all_lines c done
chunk_lines c done h g = report_lines c done chunk_room (omega arith) (omega arith)

-- the lines of all the chunks, with `done` pieces before them, and the total
chunks : (cs : List (List ℕ)) (done : ℕ) → Filled cs → done + piece_count (whole cs) < 2 ^ 64
    → written done cs ≡ all_lines (whole cs) done ++ total (done + piece_count (whole cs))
unfolding lines
chunks [] done f h = closing_total done chunk_room (omega arith) ∙ ap total (omega arith)
chunks (c ∷ []) done f h =
    rw (append-nil c)
    (ap₂ (λ (a b : List ℕ). a ++ b) (chunk_lines c done f (rw append-nil at h)) (closing_total (done + piece_count c) chunk_room (omega arith)))
chunks (c ∷ (d ∷ cs)) done f h =
    let w : List ℕ = whole (d ∷ cs) in
    let n : ℕ = piece_count w in
    let l : length (c ++ w) ≡ length c + length w = length-append c w in
    let p : piece_count c ≡ chunk_pieces = omega (arith, f.0) in
    let q : chunk_pieces + n ≡ piece_count (c ++ w) = omega (arith, f.0) in
    let r : done + chunk_pieces + n ≡ done + piece_count (c ++ w) = omega arith in
    ap₂ (λ (a b : List ℕ). a ++ b)
    (chunk_lines c done (omega (arith, f.0)) (omega arith) ∙ ap (lines c done) p)
    (ap (λ (k : ℕ). written (done + k) (d ∷ cs)) p ∙ chunks (d ∷ cs) (done + chunk_pieces) f.1 (omega arith))
    ∙ sym (append_assoc (lines c done chunk_pieces) (lines w (done + chunk_pieces) n) (total (done + chunk_pieces + n)))
    ∙ ap₂ (λ (a : List ℕ) (k : ℕ). a ++ total k)
    (sym (lines_parts c w done chunk_pieces n (omega (arith, f.0))) ∙ ap (lines (c ++ w) done) q) r

pub chunks_whole : ChunksPrintTheWhole
chunks_whole cs f h =
    let n : ℕ = piece_count (whole cs) in
    let e : 0 + n ≡ n = omega arith in
    chunks cs 0 f (omega arith) ∙ ap (λ (k : ℕ). all_lines (whole cs) 0 ++ total k) e
