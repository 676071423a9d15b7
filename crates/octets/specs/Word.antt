-- What holds of numbers of one width in bytes, whatever the width and the sign.
use Rattle.std.specs.Prelude.{◌≡◌, ℕ, zero, suc, ◌+◌, ◌*◌, ◌<◌, List, [], ◌∷◌, ◌++◌, map, length, get_or}
use Rattle.octets.specs.Bytes.{nat_at, int_at, signed, octets_of, complemented}
use Rattle.octets.specs.Table.{table, nats_at, ints_at, octets_of_all}
use Rattle.std.proofs.Common.{refl, sym, ap, ap₂, ◌∙◌, arith, add-zero}

pub record WordLaws {W : Type 0} (width : ℕ) (at : List ℕ → ℕ → W) (run_at : List ℕ → ℕ → ℕ → List W) (octets : W → List ℕ) (run_octets : List W → List ℕ) : Type 0 where
  pub some : 0 < width
  -- equal bytes hold equal numbers
  pub same : (s t : List ℕ) (i j : ℕ) → ((k : ℕ) → k < width → get_or s (i + k) 0 ≡ get_or t (j + k) 0) → at s i ≡ at t j
  -- number k of a run stands width * k bytes behind its first
  pub run : (s : List ℕ) (i n : ℕ) → run_at s i n ≡ table n (λ k. at s (i + width * k))
  -- each number has as many bytes
  pub octets_count : (x : W) → length (octets x) ≡ width
  pub run_none : run_octets [] ≡ []
  pub run_more : (x : W) (xs : List W) → run_octets (x ∷ xs) ≡ octets x ++ run_octets xs

-- one byte more
pub nat_suc : (s : List ℕ) (i n : ℕ) → nat_at s i (suc n) ≡ nat_at s i n * 256 + get_or s (i + n) 0
nat_suc s i zero = simp add-zero (omega arith)
nat_suc s i (suc n) = refl

-- two places whose n bytes are equal hold the same number
pub nat_same : (s t : List ℕ) (i j n : ℕ) → ((k : ℕ) → k < n → get_or s (i + k) 0 ≡ get_or t (j + k) 0) → nat_at s i n ≡ nat_at t j n
nat_same s t i j zero f = refl
nat_same s t i j (suc n) f =
    nat_suc s i n
    ∙ ap₂ (λ (x b : ℕ). x * 256 + b) (nat_same s t i j n (λ k h. f k (omega arith))) (f n (omega arith))
    ∙ sym (nat_suc t j n)

pub octets_length : (n x : ℕ) → length (octets_of n x) ≡ n
octets_length zero x = refl
octets_length (suc zero) x = refl
octets_length (suc (suc n)) x = ap suc (octets_length (suc n) x)

module _ (w : ℕ) (l : 0 < w) where
  pub nat_laws : WordLaws w (λ s i. nat_at s i w) (λ s i n. nats_at s i w n) (octets_of w) (octets_of_all w)
  unfolding nats_at octets_of_all
  nat_laws = record {
    some = l;
    same = λ s t i j e. nat_same s t i j w e;
    run = λ s i n. refl;
    octets_count = octets_length w;
    run_none = refl;
    run_more = λ x xs. refl;
  }

  pub int_laws : WordLaws w (λ s i. int_at s i w) (λ s i n. ints_at s i w n) (λ z. octets_of w (complemented (8 * w) z)) (λ zs. octets_of_all w (map (complemented (8 * w)) zs))
  unfolding ints_at octets_of_all
  int_laws = record {
    some = l;
    same = λ s t i j e. ap (signed (8 * w)) (nat_same s t i j w e);
    run = λ s i n. refl;
    octets_count = λ z. octets_length w (complemented (8 * w) z);
    run_none = refl;
    run_more = λ x xs. refl;
  }
