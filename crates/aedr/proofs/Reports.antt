-- Laws of the lines and the closing line, as the functions store them.
use Prim.Native.Nat.{ℕ, suc, ◌+◌, ◌-◌, ◌*◌, ◌<◌, ◌≤◌, ◌^◌}
use mathlib.Core.Path.{◌≡◌, refl}
use mathlib.Core.Bool.{Bool, true, false, cond}
use mathlib.Core.List.{List, []}
use native.Mathlib.Omega.{arith}
use lib.Dec.{ltb}
use lib.ListN.{length}
use borrow.Author.Tests.{lt-ltb, le-ltb}
use Rattle.octets.specs.Bytes.{put}
use Rattle.aedr.specs.Text.{TextAt}
use Rattle.aedr.specs.Printed.{piece_count, piece, answer_of, line, lines, all_lines, total}
use Rattle.aedr.specs.Chunks.{line_room, total_room, report, closing}
use Rattle.aedr.proofs.Texts.{text_then, text_none}

-- no line yet, and one line more
pub lines_none : (input s : List ℕ) (done : ℕ) → TextAt s 0 (lines input done 0) 0 s
unfolding lines
lines_none input s done = text_none s 0

pub lines_more : (input s t u : List ℕ) (done k number at a r : ℕ) → number ≡ done + suc k → a ≡ answer_of (piece input k) → TextAt s 0 (lines input done k) at t
    → TextAt t at (line number a) r u → TextAt s 0 (lines input done (suc k)) r u
unfolding lines
lines_more input s t u done k number at a r n e p q =
    text_then (lines input done k) (line (done + suc k) (answer_of (piece input k))) s t u 0 at r p (rw (n, e) at q)

-- what an entry stores at the start of its output: the text's length, and the output then
abbrev pub Starts : List ℕ → List ℕ → ℕ → List ℕ → Type 0
Starts s text r t = (r ≡ length text) × (t ≡ put s 0 text)

starts : (s text t : List ℕ) (r : ℕ) → TextAt s 0 text r t → Starts s text r t
starts s text t r p = (omega arith, p.1)

-- the text that an entry stores, worked out
stored : (s text told t : List ℕ) (r : ℕ) → told ≡ text → TextAt s 0 text r t → Starts s told r t
stored s text told t r e p = rw e (starts s text t r p)

-- the report: nothing for want of room or of numbers, else the lines
report_none : (input : List ℕ) (done room : ℕ) → room < line_room * piece_count input → report input done room ≡ []
unfolding report
report_none input done room h = rw (lt-ltb room (line_room * piece_count input) h)

report_numbers : (input : List ℕ) (done room : ℕ) → 2 ^ 64 - 1 - done < piece_count input → report input done room ≡ []
unfolding report
report_numbers input done room h = rw (lt-ltb (2 ^ 64 - 1 - done) (piece_count input) h) (both (ltb room (line_room * piece_count input)))
  where
    both : (b : Bool) → ◌≡◌ {A = List ℕ} (cond b [] []) []
    both true = refl
    both false = refl

pub report_lines : (input : List ℕ) (done room : ℕ) → line_room * piece_count input ≤ room → piece_count input ≤ 2 ^ 64 - 1 - done
    → report input done room ≡ all_lines input done
unfolding report
report_lines input done room h g = rw (le-ltb room (line_room * piece_count input) h, le-ltb (2 ^ 64 - 1 - done) (piece_count input) g)

pub no_room : (input s : List ℕ) (done : ℕ) → length s < line_room * piece_count input → Starts s (report input done (length s)) 0 s
no_room input s done h = stored s [] _ s 0 (report_none input done (length s) h) (text_none s 0)

pub no_numbers : (input s : List ℕ) (done : ℕ) → 2 ^ 64 - 1 - done < piece_count input → Starts s (report input done (length s)) 0 s
no_numbers input s done h = stored s [] _ s 0 (report_numbers input done (length s) h) (text_none s 0)

pub all_lines_lem : (input s t : List ℕ) (done r : ℕ) → line_room * piece_count input ≤ length s → piece_count input ≤ 2 ^ 64 - 1 - done
    → TextAt s 0 (all_lines input done) r t → Starts s (report input done (length s)) r t
all_lines_lem input s t done r h g p = stored s (all_lines input done) _ t r (report_lines input done (length s) h g) p

-- the closing line
pub no_closing : (s : List ℕ) (n : ℕ) → length s < total_room → Starts s (closing n (length s)) 0 s
unfolding closing
no_closing s n h = stored s [] _ s 0 (rw (lt-ltb (length s) total_room h)) (text_none s 0)

pub closing_total : (n room : ℕ) → total_room ≤ room → closing n room ≡ total n
unfolding closing
closing_total n room h = rw (le-ltb room total_room h)

pub all_closing : (s t : List ℕ) (n r : ℕ) → total_room ≤ length s → TextAt s 0 (total n) r t → Starts s (closing n (length s)) r t
all_closing s t n r h p = stored s (total n) _ t r (closing_total n (length s) h) p
