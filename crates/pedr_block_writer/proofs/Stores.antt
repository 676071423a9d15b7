-- Runs of items and carried bytes as columns.
use Prim.Native.Nat.{ℕ, zero, suc, ◌+◌, ◌*◌, ◌<◌, ◌≤◌}
use mathlib.Core.Path.{◌≡◌, sym, ap, ◌∙◌}
use mathlib.Core.List.{List, ◌++◌}
use native.Mathlib.Omega.{arith}
use lib.ListN.{length, get_or, take}
use lib.Seq.{length-take-le, take_all}
use Rattle.octets.specs.Bytes.{put, Octets}
use Rattle.octets.specs.Table.{table, octets_at, octets_of_all}
use Rattle.octets.proofs.Fill.{octets_count}
use Rattle.octets.proofs.Store.{put_then}
use Rattle.octets.proofs.Runs.{all_length, all_bytes}

-- the first n items of an array have so many bytes
pub run_fits : (n : ℕ) (xs : List ℕ) → n ≤ length xs → length (octets_of_all 2 (take n xs)) ≡ 2 * n
run_fits n xs h = all_length 2 (take n xs) ∙ ap (λ (k : ℕ). 2 * k) (length-take-le n xs h)

-- an array that is stored whole
pub whole_stored : (n : ℕ) (xs t s : List ℕ) (i : ℕ) → length xs ≡ n → t ≡ put s i (octets_of_all 2 xs) → t ≡ put s i (octets_of_all 2 (take n xs))
whole_stored n xs t s i l e = e ∙ ap (λ (ys : List ℕ). put s i (octets_of_all 2 ys)) (sym (take_all n xs (omega (arith, l))))

-- two stores, one behind the other
pub both_stored : (a b t u s : List ℕ) (i k : ℕ) → i + length a ≡ k → u ≡ put s i a → t ≡ put u k b → t ≡ put s i (a ++ b)
both_stored a b t u s i k l e g = g ∙ ap (λ (z : List ℕ). put z k b) e ∙ put_then a s b i k l

-- carried bytes are numbers of one byte each
pub part_octets : (x : List ℕ) (i n : ℕ) → Octets x → Octets (octets_at x i n)
unfolding octets_at
part_octets x i n o = go n (λ k. get_or x (i + k) 0) (λ k. o (i + k))
  where
    go : (n : ℕ) (f : ℕ → ℕ) → ((k : ℕ) → f k < 256) → Octets (table n f)
    go zero f h k = omega arith
    go (suc n) f h zero = h 0
    go (suc n) f h (suc k) = go n (λ j. f (suc j)) (λ j. h (suc j)) k

pub bytes_stored : (x t s : List ℕ) (i k n : ℕ) → Octets x → t ≡ put s i (octets_at x k n) → t ≡ put s i (octets_of_all 1 (octets_at x k n))
bytes_stored x t s i k n o e = e ∙ ap (put s i) (sym (all_bytes (octets_at x k n) (part_octets x k n o)))

pub bytes_fit : (x : List ℕ) (i n : ℕ) → length (octets_of_all 1 (octets_at x i n)) ≡ 1 * n
bytes_fit x i n = all_length 1 (octets_at x i n) ∙ ap (λ (k : ℕ). 1 * k) (octets_count x i n)
