-- Laws of the bins: the bytes of a pair are each other's place.
use Rattle.std.proofs.Common.{◌≡◌, ℕ, ◌+◌, ◌-◌, ◌%◌, ◌<◌, ◌≤◌, List, length, get_or, arith, eq-eqb, ne_eqb}
use native.Mathlib.Decide.{ℕ_discrete}
use Rattle.octets.proofs.Fill.{table_length, table_at}
use Rattle.packet_bins.specs.Bins.{bin_byte, bins_of}

pub bins_length : (bs : List ℕ) → length (bins_of bs) ≡ 48
unfolding bins_of
bins_length bs = table_length 48 (λ j. get_or bs (bin_byte j) 0)

pub bins_at : (bs : List ℕ) (j : ℕ) → j < 48 → get_or (bins_of bs) j 0 ≡ get_or bs (bin_byte j) 0
unfolding bins_of
bins_at bs j h = table_at 48 (λ j. get_or bs (bin_byte j) 0) j 0 h

-- by whether an index is even
by_parity : (P : ℕ → Type 0) (j : ℕ) → (j % 2 ≡ 0 → P j) → ((j % 2 ≡ 0 → ⊥) → 1 ≤ j → P j) → P j
by_parity P j e o = go (ℕ_discrete (j % 2) 0)
  where
    go : Dec (j % 2 ≡ 0) → P j
    go (yes h) = e h
    go (no h) = o h (omega arith)

-- every bin has a byte of the histogram
pub bin_byte_range : (j : ℕ) → j < 48 → (56 ≤ bin_byte j) × (bin_byte j < 104)
bin_byte_range j h =
    by_parity (λ k. k < 48 → (56 ≤ bin_byte k) × (bin_byte k < 104)) j
    (λ e l. rw (eq-eqb _ _ e) (omega arith)) (λ n p l. rw (ne_eqb _ _ n) (omega arith)) h

-- the swap is its own inverse
pub bin_byte_twice : (j : ℕ) → bin_byte (bin_byte j - 56) ≡ 56 + j
bin_byte_twice j =
    by_parity (λ k. bin_byte (bin_byte k - 56) ≡ 56 + k) j
    (λ e. rw (eq-eqb (j % 2) 0 e, ne_eqb ((56 + j + 1 - 56) % 2) 0 (λ q. omega arith)) (omega arith))
    (λ n p. rw (ne_eqb (j % 2) 0 n, eq-eqb ((56 + j - 1 - 56) % 2) 0 (omega arith)) (omega arith))
