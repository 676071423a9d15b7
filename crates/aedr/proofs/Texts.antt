-- Laws of text that is stored part by part.
use Rattle.std.proofs.Common.{◌≡◌, ℕ, ◌≤◌, List, [], ◌∷◌, ◌++◌, take, length, sym, ap, ◌∙◌, arith, length-append}
use lib.Seq.{length-take-le}
use Rattle.octets.specs.Bytes.{put}
use Rattle.octets.proofs.Store.{put_then, put_nothing}
use Rattle.aedr.specs.Decimal.{decimal}
use Rattle.aedr.specs.Text.{TextAt}
use Rattle.aedr.specs.Printed.{line, total}

-- one text where another ends
pub text_then : (a b s t u : List ℕ) (i j k : ℕ) → TextAt s i a j t → TextAt t j b k u → TextAt s i (a ++ b) k u
text_then a b s t u i j k p q = (
  rw length-append (omega arith),
  q.1 ∙ ap (λ (l : List ℕ). put l j b) p.1 ∙ put_then a s b i j (sym p.0),
)

pub text_none : (s : List ℕ) (i : ℕ) → TextAt s i [] i s
text_none s i = (omega arith, sym (put_nothing s i))

-- a line from its two numbers, and the closing line from its word and its number
pub text_line : (s t u v w : List ℕ) (i a b c d n m : ℕ) → TextAt s i (decimal n) a t → TextAt t a (32 ∷ []) b u → TextAt u b (decimal m) c v
    → TextAt v c (10 ∷ []) d w → TextAt s i (line n m) d w
unfolding line
text_line s t u v w i a b c d n m p q r e =
    text_then (decimal n) (32 ∷ (decimal m ++ (10 ∷ []))) s t w i a d p
    (text_then (32 ∷ []) (decimal m ++ (10 ∷ [])) t u w a b d q (text_then (decimal m) (10 ∷ []) u v w b c d r e))

pub text_total : (s t u v : List ℕ) (i a b c n : ℕ) → TextAt s i (114 ∷ 101 ∷ 99 ∷ 111 ∷ 114 ∷ 100 ∷ 115 ∷ 32 ∷ []) a t → TextAt t a (decimal n) b u
    → TextAt u b (10 ∷ []) c v → TextAt s i (total n) c v
unfolding total
text_total s t u v i a b c n p q e =
    text_then (114 ∷ 101 ∷ 99 ∷ 111 ∷ 114 ∷ 100 ∷ 115 ∷ 32 ∷ []) (decimal n ++ (10 ∷ [])) s t v i a c p (text_then (decimal n) (10 ∷ []) t u v a b c q e)

-- a count of bytes at the start of a list
pub counts : (l : List ℕ) (r : ℕ) → r ≤ length l → (r ≤ length l) × (r ≡ length (take r l))
counts l r h = (h, sym (length-take-le r l h))
