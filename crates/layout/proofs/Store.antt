-- Parts stored at their columns, one after the other, are the parts joined.
use Prim.Native.Nat.{ℕ, ◌+◌}
use mathlib.Core.Path.{◌≡◌, refl, sym, ap, ◌∙◌}
use mathlib.Core.Bool.{true}
use mathlib.Core.List.{List, [], ◌∷◌, ◌++◌, append-nil, append_assoc}
use native.Mathlib.Omega.{arith}
use lib.ListN.{length, length-append}
use Rattle.octets.specs.Bytes.{put}
use Rattle.octets.proofs.Store.{put_nothing, put_then, put_whole}
use Rattle.layout.specs.Column.{Column, size, tiles, join}
use Rattle.layout.proofs.Cover.{Fit, done, ◌▹◌, first, join_length}

-- the list s with each part stored at its column
abbrev pub put_all : List ℕ → List (List ℕ) → List Column → List ℕ
put_all s [] cs = s
put_all s (p ∷ ps) [] = s
put_all s (p ∷ ps) (c ∷ cs) = put_all (put s c.start p) ps cs

-- behind the bytes x
put_after : (ps : List (List ℕ)) (cs : List Column) (s x : List ℕ) (a b : ℕ) → tiles a b cs ≡ true → a ≡ length x → Fit ps cs
    → put_all (put s 0 x) ps cs ≡ put s 0 (x ++ join ps)
put_after [] [] s x a b t e done = ap (put s 0) (sym (append-nil x))
put_after (p ∷ ps) (c ∷ cs) s x a b t e (l ▹ f) =
    let q = first c cs a b t in
    let k : a + size c ≡ length (x ++ p) = rw length-append (omega (arith, l)) in
    ap (λ (z : List ℕ). put_all z ps cs) (put_then x s p 0 c.start (omega (arith, q.0)))
    ∙ put_after ps cs s (x ++ p) (a + size c) b q.1 k f
    ∙ ap (put s 0) (append_assoc x p (join ps))
put_after [] (c ∷ cs) s x a b t e x9 = elim x9 [ ]
put_after (p ∷ ps) [] s x a b t e x8 = elim x8 [ ]

-- in a list of the layout's length
pub put_join : (ps : List (List ℕ)) (cs : List Column) (s : List ℕ) (b : ℕ) → tiles 0 b cs ≡ true → Fit ps cs → length s ≡ b
    → put_all s ps cs ≡ join ps
put_join ps cs s b t f e =
    ap (λ (z : List ℕ). put_all z ps cs) (sym (put_nothing s 0)) ∙ put_after ps cs s [] 0 b t refl f
    ∙ put_whole s (join ps) (omega (arith, join_length ps cs 0 b t f))

-- t is s with each part stored at its column, one after the other
infixr 5 ◌▸◌
pub data Puts : List ℕ → List (List ℕ) → List Column → List ℕ → Type 0 where
  stop : {s : List ℕ} → Puts s [] [] s
  ◌▸◌ : {s t u p : List ℕ} {ps : List (List ℕ)} {c : Column} {cs : List Column} → t ≡ put s c.start p → Puts t ps cs u → Puts s (p ∷ ps) (c ∷ cs) u

-- that is one store of the parts joined
pub puts_join : (ps : List (List ℕ)) (cs : List Column) {s t : List ℕ} (a b : ℕ) → tiles a b cs ≡ true → Fit ps cs → Puts s ps cs t → t ≡ put s a (join ps)
puts_join [] [] {s} a b t done stop = sym (put_nothing s a)
puts_join (p ∷ ps) (c ∷ cs) {s} a b t (l ▹ f) (e ▸ r) =
    let q = first c cs a b t in
    puts_join ps cs (a + size c) b q.1 f r ∙ ap (λ (z : List ℕ). put z (a + size c) (join ps)) (e ∙ ap (λ (i : ℕ). put s i p) q.0)
    ∙ put_then p s (join ps) a (a + size c) (omega (arith, l))
puts_join [] (c ∷ cs) {s = s} a b t x6 _ = elim x6 [ ]
puts_join (p ∷ ps) [] {s = s} a b t x6 _ = elim x6 [ ]

-- one store of two parts, as two
pub put_both : (a b s t : List ℕ) (i k : ℕ) → i + length a ≡ k → t ≡ put s i (a ++ b) → t ≡ put (put s i a) k b
put_both a b s t i k l e = e ∙ sym (put_then a s b i k l)
