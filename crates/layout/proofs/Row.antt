-- A row's numbers to bytes and back: the laws of a column's numbers, over a layout.
use Prim.Native.Nat.{ℕ, ◌+◌, ◌*◌, ◌≤◌}
use mathlib.Core.Path.{◌≡◌, refl, sym, ap, ◌∙◌}
use mathlib.Core.Bool.{Bool, true, ◌&&◌}
use mathlib.Core.List.{List, [], ◌∷◌}
use native.Mathlib.Omega.{arith}
use borrow.Author.Tests.{leb-true}
use lib.Dec.{leb}
use lib.ListN.{length, get_or}
use Rattle.octets.specs.Bytes.{part, Octets}
use Rattle.layout.specs.Column.{Column, size, tiles, numbers_at, values, holding_all, cut}
use Rattle.layout.specs.Row.{Row, end, ◌▷◌, row_of, row_parts, FirstRest, RowHolds}
use Rattle.layout.proofs.Cover.{Fit, done, ◌▹◌, first, both_true, tiles_le}
use Rattle.layout.proofs.Values.{numbers_length, write_numbers, read_numbers}

-- every column's items have a byte or more
abbrev pub wide : List Column → Bool
wide [] = true
wide (c ∷ cs) = leb 1 c.width && wide cs

-- one fact more
infixr 5 ◌▶◌
pub ◌▶◌ : {A B : Type 0} → A → B → FirstRest A B
a ▶ b = record { here = a; there = b }

-- the parts of a row fit its columns
pub row_fits : (cs : List Column) (r : Row cs) → RowHolds cs r → Fit (row_parts cs r) cs
row_fits [] end h = done
row_fits (c ∷ cs) (xs ▷ r) h = (numbers_length c.sign c.width xs ∙ ap (λ (n : ℕ). c.width * n) h.here.0) ▹ row_fits cs r h.there

module _ (s : List ℕ) where
  -- numbers that were read, written again: the bytes of their columns
  pub write_row : (cs : List Column) (a b : ℕ) → tiles a b cs ≡ true → wide cs ≡ true → Octets s → b ≤ length s
      → row_parts cs (row_of s cs) ≡ cut s cs
  write_row [] a b t w o h = refl
  write_row (c ∷ cs) a b t w o h =
      let f = first c cs a b t in
      let v = both_true (leb 1 c.width) (wide cs) w in
      let l = tiles_le cs (a + size c) b f.1 in
      let p = write_numbers c.width (leb-true 1 c.width v.0) c.sign c.items s c.start o (omega (arith, f.0)) in
      let q = write_row cs (a + size c) b f.1 v.1 o h in
      λ i. p i ∷ q i

  -- numbers that were written, read again: the numbers
  pub read_row : (cs : List Column) (r : Row cs) (a b : ℕ) → tiles a b cs ≡ true → wide cs ≡ true → b ≤ length s → RowHolds cs r
      → cut s cs ≡ row_parts cs r → row_of s cs ≡ r
  read_row [] end a b t w h x e = refl
  read_row (c ∷ cs) (xs ▷ r) a b t w h held e =
      let f = first c cs a b t in
      let v = both_true (leb 1 c.width) (wide cs) w in
      let l = tiles_le cs (a + size c) b f.1 in
      let x = held.here in
      let p : part s c.start (size c) ≡ holding_all c xs = ap (λ (ps : List (List ℕ)). get_or ps 0 []) e in
      let room : c.start + c.width * length xs ≤ length s = rw x.0 (omega (arith, f.0)) in
      let m = read_numbers c.width (leb-true 1 c.width v.0) c.sign xs s c.start room x.1
      (ap (λ (n : ℕ). part s c.start (c.width * n)) x.0 ∙ p) in
      let z : values s c ≡ xs = ap (λ (n : ℕ). numbers_at c.sign s c.start c.width n) (sym x.0) ∙ m in
      let q = read_row cs r (a + size c) b f.1 v.1 h held.there (ap rest e) in
      λ i. z i ▷ q i
    where
      rest : List (List ℕ) → List (List ℕ)
      rest [] = []
      rest (p ∷ ps) = ps
