-- A signed number, as the machine holds it: its bits, and stored.
use Prim.Native.Nat.{ℕ}
use mathlib.Core.Path.{◌≡◌, ap, ◌∙◌}
use mathlib.Core.List.{List}
use lib.IntN.{ℤ}
use mir.Syntax.{Width}
use mir.Val.{SFits, to_z, of_z}
use mir.ValLaws.{to_z-of_z}
use Rattle.octets.specs.Bytes.{octets_of, complemented, put}

-- over the width
pub signed_bits : (w : Width) (k : ℕ) (z : ℤ) (x : ℕ) → SFits w z → x ≡ complemented k (to_z w (of_z w z)) → x ≡ complemented k z
signed_bits w k z x f e = e ∙ ap (complemented k) (to_z-of_z w z f)

pub signed_stored : (w : Width) (n k : ℕ) (z : ℤ) (t s : List ℕ) (i : ℕ) → SFits w z → t ≡ put s i (octets_of n (complemented k (to_z w (of_z w z))))
    → t ≡ put s i (octets_of n (complemented k z))
signed_stored w n k z t s i f e = e ∙ ap (λ (x : ℤ). put s i (octets_of n (complemented k x))) (to_z-of_z w z f)
