-- The numbers of each column of a layout.
use Rattle.std.specs.Prelude.{ℕ, ◌≡◌, List, [], ◌∷◌, length}
use Rattle.layout.specs.Column.{Column, Number, values, holding_all, HoldsAll}

-- a list of numbers for each column
infixr 5 ◌▷◌
pub data Row : List Column → Type 0 where
  end : Row []
  ◌▷◌ : {c : Column} {cs : List Column} → List (Number c.sign) → Row cs → Row (c ∷ cs)

-- the numbers in the bytes s
abbrev pub row_of : List ℕ → (cs : List Column) → Row cs
row_of s [] = end
row_of s (c ∷ cs) = values s c ▷ row_of s cs

-- the bytes of each column
abbrev pub row_parts : (cs : List Column) → Row cs → List (List ℕ)
row_parts [] end = []
row_parts (c ∷ cs) (xs ▷ r) = holding_all c xs ∷ row_parts cs r

-- a fact of the first column, and one of the others
pub record FirstRest (A B : Type 0) : Type 0 where
  pub here : A
  pub there : B

-- each column has as many numbers as items, each of which its bytes hold
abbrev pub RowHolds : (cs : List Column) → Row cs → Type 0
RowHolds [] end = Unit {0}
RowHolds (c ∷ cs) (xs ▷ r) = FirstRest ((length xs ≡ c.items) × HoldsAll c.sign c.width xs) (RowHolds cs r)
