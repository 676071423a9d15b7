-- The descriptor's tests in its two words.
use Prim.Native.Nat.{ℕ, suc, ◌+◌, ◌%◌, ◌<◌}
use mathlib.Core.Path.{◌≡◌, ap, ap₂, ◌∙◌}
use mathlib.Core.Bool.{Bool}
use mathlib.Core.List.{List}
use native.Mathlib.Omega.{arith}
use lib.Dec.{eqb}
use lib.ListN.{get_or}
use Rattle.numbers.specs.Bit.{bit}
use Rattle.octets.specs.Bytes.{nat_at, Octets}
use Rattle.octets.proofs.Read.{nat_bit}
use Rattle.pedr_flags.specs.Descriptor.{failed, failures_of}
use Rattle.pedr_flags.specs.declared.ShotFailures.{ShotFailures}

module _ (s : List ℕ) (o : Octets s) where
  low_bit : (k : ℕ) → k < 64 → eqb (bit (nat_at s 40 8) k) 1 ≡ failed s k
  low_bit k h = ap (λ (b : ℕ). eqb b 1) (nat_bit s 40 8 k o (omega arith) ∙ ap (λ (j : ℕ). bit (get_or s j 0) (k % 8)) (omega arith))

  high_bit : (k : ℕ) → k < 64 → eqb (bit (nat_at s 32 8) k) 1 ≡ failed s (64 + k)
  high_bit k h =
      ap (λ (b : ℕ). eqb b 1)
      (nat_bit s 32 8 k o (omega arith) ∙ ap₂ (λ (j m : ℕ). bit (get_or s j 0) m) (omega arith) (omega arith))

  -- the tests of shot k + 1
  pub shot_tests : (low high k : ℕ) (a b c d e : Bool) → low ≡ nat_at s 40 8 → high ≡ nat_at s 32 8 → k < 20
      → a ≡ eqb (bit low (4 + k)) 1 → b ≡ eqb (bit low (24 + k)) 1 → c ≡ eqb (bit low (44 + k)) 1 → d ≡ eqb (bit high k) 1 → e ≡ eqb (bit high (20 + k)) 1
      → ◌≡◌ {A = ShotFailures} (record { power = a; energy = b; range = c; window = d; comparison = e }) (failures_of s (suc k))
  unfolding failures_of
  shot_tests low high k a b c d e el eh h pa pb pc pd pe =
      let l : (m j : ℕ) → m < 64 → m ≡ j → eqb (bit low m) 1 ≡ failed s j = λ m j q r. ap (λ (w : ℕ). eqb (bit w m) 1) el ∙ low_bit m q ∙ ap (failed s) r in
      let u : (m j : ℕ) → m < 64 → 64 + m ≡ j → eqb (bit high m) 1 ≡ failed s j = λ m j q r. ap (λ (w : ℕ). eqb (bit w m) 1) eh ∙ high_bit m q ∙ ap (failed s) r in
      let power = pa ∙ l (4 + k) (3 + suc k) (omega arith) (omega arith) in
      let energy = pb ∙ l (24 + k) (23 + suc k) (omega arith) (omega arith) in
      let range = pc ∙ l (44 + k) (43 + suc k) (omega arith) (omega arith) in
      let window = pd ∙ u k (63 + suc k) (omega arith) (omega arith) in
      let comparison = pe ∙ u (20 + k) (83 + suc k) (omega arith) (omega arith) in
      λ i. record { power = power i; energy = energy i; range = range i; window = window i; comparison = comparison i }
