-- The class of any number can be written.
use Prim.Native.Nat.{ℕ, zero, suc}
use mathlib.Core.Path.{◌≡◌, refl, ap₂}
use mathlib.Core.Bool.{Bool, true, ◌&&◌}
use mathlib.Core.List.{List, [], ◌∷◌, map}
use native.Mathlib.Omega.{arith}
use borrow.Author.Tests.{ne_eqb, lt-ltb}
use Rattle.octets.specs.Table.{each}
use Rattle.pedr_flags.specs.Class.{class_of}
use Rattle.pedr_codes.specs.Codes.{is_proper}

pub class_proper : (n : ℕ) → is_proper (class_of n) ≡ true
class_proper zero = refl
class_proper (suc zero) = refl
class_proper (suc (suc n)) =
    simp (ne_eqb (suc (suc n)) 0 (λ e. omega arith), ne_eqb (suc (suc n)) 1 (λ e. omega arith)) (lt-ltb 1 (suc (suc n)) (omega arith))

pub classes_proper : (ns : List ℕ) → each is_proper (map class_of ns) ≡ true
unfolding each
classes_proper [] = refl
classes_proper (n ∷ ns) = ap₂ (λ (a b : Bool). a && b) (class_proper n) (classes_proper ns)
