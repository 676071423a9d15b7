-- The numbers of a column by their types.
use Prim.Native.Nat.{ℕ, zero, suc, ◌^◌, ◌<◌, ◌≤◌}
use mathlib.Core.Path.{◌≡◌, refl, sym, subst}
use mathlib.Core.List.{List, [], ◌∷◌}
use native.Mathlib.Omega.{arith}
use native.Mathlib.Decide.{dec_le}
use lib.IntN.{ℤ, pos, negsuc}
use lib.ListN.{length, get_or, take, get_or-eq_default}
use lib.Seq.{length-take-le, get_or-take}
use mir.Syntax.{w16}
use mir.Val.{SFits}
use Rattle.octets.specs.Bytes.{Octets, SignedFits}
use Rattle.octets.specs.Table.{octets_at}
use Rattle.octets.proofs.Fill.{octets_count}
use Rattle.layout.specs.Column.{unsigned, complement, HoldsAll}
use Rattle.pedr_block_writer.proofs.Stores.{part_octets}

-- a column of one number
pub one : (w x : ℕ) → x < 256 ^ w → (length (x ∷ []) ≡ 1) × HoldsAll unsigned w (x ∷ [])
one w x h = (refl, held)
  where
    held : HoldsAll unsigned w (x ∷ [])
    held zero = h
    held (suc k) = omega arith

pub one_signed : (z : ℤ) → SFits w16 z → (length (z ∷ []) ≡ 1) × HoldsAll complement 2 (z ∷ [])
one_signed z h = (refl, held)
  where
    fits : (z : ℤ) → SFits w16 z → SignedFits 16 z
    fits (pos n) f = f.sfits
    fits (negsuc n) f = f.sfits

    held : HoldsAll complement 2 (z ∷ [])
    held zero = fits z h
    held (suc k) = omega arith

-- the first n items of an array
pub items : (n : ℕ) (xs : List ℕ) → n ≤ length xs → HoldsAll unsigned 2 xs → (length (take n xs) ≡ n) × HoldsAll unsigned 2 (take n xs)
items n xs l h = (length-take-le n xs l, λ k. go k (dec_le (suc k) n))
  where
    go : (k : ℕ) → Dec (k < n) → get_or (take n xs) k 0 < 65536
    go k (yes b) = subst (λ (x : ℕ). x < 65536) (sym (get_or-take n xs k 0 b)) (h k)
    go k (no b) =
        let m : length (take n xs) ≤ k = subst (λ (j : ℕ). j ≤ k) (sym (length-take-le n xs l)) (omega arith) in
        subst (λ (x : ℕ). x < 65536) (sym (get_or-eq_default (take n xs) 0 m)) (omega arith)

-- carried bytes
pub bytes : (c : List ℕ) (i n : ℕ) → Octets c → (length (octets_at c i n) ≡ n) × HoldsAll unsigned 1 (octets_at c i n)
bytes c i n o = (octets_count c i n, part_octets c i n o)
