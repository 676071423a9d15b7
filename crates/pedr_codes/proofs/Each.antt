-- A test of each element.
use mathlib.Core.Path.{◌≡◌, refl, ap}
use mathlib.Core.Bool.{Bool, ◌&&◌}
use mathlib.Core.List.{List, [], ◌∷◌}
use Rattle.std.specs.List.{list_all}
use Rattle.octets.specs.Table.{each}

pub each_list : {A : Type 0} (p : A → Bool) (xs : List A) → list_all p xs ≡ each p xs
unfolding each
each_list p [] = refl
each_list p (x ∷ xs) = ap (λ (b : Bool). p x && b) (each_list p xs)
