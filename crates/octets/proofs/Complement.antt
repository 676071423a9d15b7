-- Two's complement both ways, over the number of bits.
use Prim.Native.Nat.{ℕ, zero, suc, ◌-◌, ◌*◌, ◌^◌, ◌<◌, ◌≤◌}
use mathlib.Core.Path.{◌≡◌, refl, ap}
use mathlib.Core.Bool.{Bool, true, false, cond}
use native.Mathlib.Nat.{pow-suc}
use native.Mathlib.Omega.{arith}
use borrow.Author.Tests.{lt-ltb, le-ltb, ltb-true, ltb-false}
use lib.Dec.{ltb}
use lib.IntN.{ℤ, pos, negsuc, ◌-ℤ◌}
use Rattle.numbers.proofs.Integers.{minus, same, up, down}
use Rattle.octets.specs.Bytes.{signed, complemented, SignedFits}

-- the numbers of k bits are twice those of the lower half
halves : (k : ℕ) → 1 ≤ k → 2 ^ k ≡ 2 ^ (k - 1) * 2
halves zero h = absurd (omega arith)
halves (suc j) h = let e : suc j - 1 ≡ j = omega arith in rw e (pow-suc 2 j)

-- the bits of an integer that fits are below 2^k
pub complemented_lt : (k : ℕ) (z : ℤ) → 1 ≤ k → SignedFits k z → complemented k z < 2 ^ k
complemented_lt k (pos n) l h = let b : n < 2 ^ (k - 1) = h in omega (arith, halves k l)
complemented_lt k (negsuc n) l h = let b : n < 2 ^ (k - 1) = h in omega (arith, halves k l)

-- the bits of an integer that fits are read as the integer
pub signed_complemented : (k : ℕ) (z : ℤ) → 1 ≤ k → SignedFits k z → signed k (complemented k z) ≡ z
signed_complemented k (pos n) l h = simp (lt-ltb n (2 ^ (k - 1)) h)
signed_complemented k (negsuc n) l h =
    let x : ℕ = 2 ^ k - suc n in
    let b : n < 2 ^ (k - 1) = h in
    let e = halves k l in
    simp (le-ltb x (2 ^ (k - 1)) (omega arith)) (same (pos x -ℤ pos (2 ^ k)) (negsuc n) (omega (arith, minus (pos x) (pos (2 ^ k)))))

-- below its half a number of k bits stands for itself, and above it for a negative integer
module _ (k x : ℕ) (l : 1 ≤ k) (h : x < 2 ^ k) where
  above : (z : ℤ) → 2 ^ (k - 1) ≤ x → z ≡ pos x -ℤ pos (2 ^ k) → (complemented k z ≡ x) × SignedFits k z
  above (pos n) b e = absurd (omega (arith, minus (pos x) (pos (2 ^ k)), ap up e, ap down e))
  above (negsuc n) b e =
      let m : n < 2 ^ (k - 1) = omega (arith, minus (pos x) (pos (2 ^ k)), ap up e, ap down e, halves k l) in
      (omega (arith, minus (pos x) (pos (2 ^ k)), ap up e, ap down e), m)

  -- the integer that bits are read as has those bits, and fits
  pub complemented_signed : (complemented k (signed k x) ≡ x) × SignedFits k (signed k x)
  complemented_signed = go (ltb x (2 ^ (k - 1))) refl
    where
      go : (b : Bool) → ltb x (2 ^ (k - 1)) ≡ b
          → (complemented k (cond b (pos x) (pos x -ℤ pos (2 ^ k))) ≡ x) × SignedFits k (cond b (pos x) (pos x -ℤ pos (2 ^ k)))
      go true e = (refl, ltb-true x (2 ^ (k - 1)) e)
      go false e = above (pos x -ℤ pos (2 ^ k)) (ltb-false x (2 ^ (k - 1)) e) refl
