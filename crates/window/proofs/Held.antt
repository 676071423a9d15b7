-- The laws of the window at positions: what is held, before and after each step. No other crate of the reorder buffer looks at a bit.
use Rattle.std.proofs.Common.{◌≡◌, ℕ, zero, suc, ◌+◌, ◌-◌, ◌*◌, ◌%◌, ◌^◌, ◌<◌, ◌≤◌, Bool, true, false, ◌&&◌, eqb, leb, ◌⊎◌, sym, ap, ◌∙◌, inl, inr, true≢false, lt_of_lt_of_le, pow-suc, arith, pow_mono, le-leb, leb-true}
use mathlib.Core.Bool.{false≢true}
use native.Mathlib.Decide.{dec_lt, ℕ_discrete}
use borrow.Author.Tests.{lt-leb}
use Rattle.numbers.specs.Bit.{bit, clear_bit}
use Rattle.numbers.proofs.Bits.{bit_pow_other, bit_set_same, bit_set_other, bit_clear_same, bit_clear_other}
use Rattle.window.specs.declared.Window.{Window}
use Rattle.window.specs.Window.{held_at, some_among, some_held, holding, freed, skipped, first_window, in32_bits}
use Rattle.std.proofs.lemmas.Bool.{and_parts, or_cases, or_right, false_from_ne_true}

-- ---- one position

abbrev pub marked : Window → ℕ → Bool
marked w p = eqb (bit w.marks (p % 32)) 1

module _ (w : Window) (p : ℕ) where
  pub held_inside : w.start ≤ p → p ≤ w.start + 31 → held_at w p ≡ marked w p
  unfolding held_at
  held_inside h k = rw (le-leb w.start p h, le-leb p (w.start + 31) k)

  pub held_below : p < w.start → held_at w p ≡ false
  unfolding held_at
  held_below h = rw (lt-leb w.start p h)

  pub held_above : w.start + 31 < p → held_at w p ≡ false
  unfolding held_at
  held_above h = rw (le-leb w.start p (omega arith), lt-leb p (w.start + 31) h)

  pub held_least : held_at w p ≡ true → w.start ≤ p
  unfolding held_at
  held_least e = leb-true w.start p (and_parts _ _ e).0

  pub held_most : held_at w p ≡ true → p ≤ w.start + 31
  unfolding held_at
  held_most e = leb-true p (w.start + 31) (and_parts _ _ (and_parts (leb w.start p) _ e).1).0

-- ---- a bit cleared, in a word of any width

below_power : (n : ℕ) → n < 2 ^ n
below_power zero = omega arith
below_power (suc n) = let e : 2 ^ suc n ≡ 2 ^ n * 2 = pow-suc 2 n in omega (arith, below_power n)

wide : (n k j : ℕ) → n < 2 ^ suc (n + k + j)
wide n k j = lt_of_lt_of_le (below_power n) (pow_mono {i = n} {j = suc (n + k + j)} (omega arith))

cleared_same : (n k : ℕ) → bit (clear_bit n k) k ≡ 0
cleared_same n k = bit_clear_same (suc (n + k + 0)) n k (wide n k 0) (omega arith)

cleared_other : (n k j : ℕ) → (k ≡ j → ⊥) → bit (clear_bit n k) j ≡ bit n j
cleared_other n k j d = bit_clear_other (suc (n + k + j)) n k (wide n k j) (omega arith) j (omega arith) d

-- ---- after a step

-- a position beyond the first is held after the first is freed, or skipped, where it was before; the one that comes into the window isn't
pub freed_held : (w : Window) (p : ℕ) → w.start < p → held_at (freed w) p ≡ held_at w p
freed_held w p h = go (dec_lt p (w.start + 32)) (dec_lt (w.start + 32) p)
  where
    go : Dec (p < w.start + 32) → Dec (w.start + 32 < p) → held_at (freed w) p ≡ held_at w p
    go (yes l) d =
        held_inside (freed w) p (omega arith) (omega arith)
        ∙ ap (λ (n : ℕ). eqb n 1) (cleared_other w.marks (w.start % 32) (p % 32) (λ e. omega arith))
        ∙ sym (held_inside w p (omega arith) (omega arith))
    go (no m) (yes l) = held_above (freed w) p (omega arith) ∙ sym (held_above w p (omega arith))
    go (no m) (no l) =
        let e : p % 32 ≡ w.start % 32 = omega arith in
        held_inside (freed w) p (omega arith) (omega arith)
        ∙ ap (λ (k : ℕ). eqb (bit (clear_bit w.marks (w.start % 32)) k) 1) e
        ∙ ap (λ (n : ℕ). eqb n 1) (cleared_same w.marks (w.start % 32))
        ∙ sym (held_above w p (omega arith))

pub skipped_held : (w : Window) (p : ℕ) → held_at w w.start ≡ false → w.start < p → held_at (skipped w) p ≡ held_at w p
skipped_held w p f h = go (dec_lt p (w.start + 32)) (dec_lt (w.start + 32) p)
  where
    go : Dec (p < w.start + 32) → Dec (w.start + 32 < p) → held_at (skipped w) p ≡ held_at w p
    go (yes l) d = held_inside (skipped w) p (omega arith) (omega arith) ∙ sym (held_inside w p (omega arith) (omega arith))
    go (no m) (yes l) = held_above (skipped w) p (omega arith) ∙ sym (held_above w p (omega arith))
    go (no m) (no l) =
        let e : p % 32 ≡ w.start % 32 = omega arith in
        held_inside (skipped w) p (omega arith) (omega arith)
        ∙ ap (λ (k : ℕ). eqb (bit w.marks k) 1) e
        ∙ sym (held_inside w w.start (omega arith) (omega arith))
        ∙ f
        ∙ sym (held_above w p (omega arith))

-- a position of the window that is made held is held, and every other one as it was
module _ (w : Window) (p : ℕ) (lo : w.start ≤ p) (hi : p ≤ w.start + 31) where
  pub holding_same : held_at (holding w p) p ≡ true
  holding_same = held_inside (holding w p) p lo hi ∙ ap (λ (n : ℕ). eqb n 1) (bit_set_same w.marks (p % 32))

  pub holding_other : (q : ℕ) → (q ≡ p → ⊥) → held_at (holding w p) q ≡ held_at w q
  holding_other q ne = go (dec_lt q w.start) (dec_lt (w.start + 31) q)
    where
      go : Dec (q < w.start) → Dec (w.start + 31 < q) → held_at (holding w p) q ≡ held_at w q
      go (yes l) d = held_below (holding w p) q l ∙ sym (held_below w q l)
      go (no m) (yes l) = held_above (holding w p) q l ∙ sym (held_above w q l)
      go (no m) (no l) =
          let n : p % 32 ≡ q % 32 → ⊥ = λ e. omega arith in
          held_inside (holding w p) q (omega arith) (omega arith)
          ∙ ap (λ (k : ℕ). eqb k 1) (bit_set_other w.marks (p % 32) (q % 32) n)
          ∙ sym (held_inside w q (omega arith) (omega arith))

-- a window from 0 with the one mark 0 holds position 0 alone
pub first_held : (p : ℕ) → held_at first_window p ≡ true → p ≡ 0
first_held p e = go (ℕ_discrete (p % 32) 0)
  where
    most : p ≤ 0 + 31
    most = held_most first_window p e

    mark : eqb (bit 1 (p % 32)) 1 ≡ true
    mark = sym (held_inside first_window p (omega arith) most) ∙ e

    go : Dec (p % 32 ≡ 0) → p ≡ 0
    go (yes i) = omega (arith, most)
    go (no n) = absurd (true≢false (sym mark ∙ ap (λ (k : ℕ). eqb k 1) (bit_pow_other 0 (p % 32) (λ i. n (sym i)))))

-- a window that starts below 2^32 has 32 bits
pub has_32_bits : (w : Window) → w.start < 4294967296 → in32_bits w ≡ w
has_32_bits w h = let e : w.start % 4294967296 ≡ w.start = omega arith in λ i. record { start = e i; marks = w.marks }

-- ---- some position

module _ (w : Window) (lo : ℕ) where
  among_held : (n : ℕ) → some_among n w lo ≡ true → (p : ℕ) × (held_at w p ≡ true) × (lo ≤ p)
  unfolding some_among
  among_held zero e = absurd (false≢true e)
  among_held (suc n) e = go (or_cases _ _ e) (among_held n)
    where
      go : ((leb lo (w.start + n) && held_at w (w.start + n)) ≡ true) ⊎ (some_among n w lo ≡ true)
          → (some_among n w lo ≡ true → (p : ℕ) × (held_at w p ≡ true) × (lo ≤ p)) → (p : ℕ) × (held_at w p ≡ true) × (lo ≤ p)
      go (inl a) r = let b = and_parts (leb lo (w.start + n)) _ a in (w.start + n, b.1, leb-true lo (w.start + n) b.0)
      go (inr b) r = r b

  held_among : (n j : ℕ) → j < n → held_at w (w.start + j) ≡ true → lo ≤ w.start + j → some_among n w lo ≡ true
  unfolding some_among
  held_among zero j l e h = absurd (omega arith)
  held_among (suc n) j l e h = go (ℕ_discrete j n) (held_among n j)
    where
      go : Dec (j ≡ n) → (j < n → held_at w (w.start + j) ≡ true → lo ≤ w.start + j → some_among n w lo ≡ true) → some_among (suc n) w lo ≡ true
      go (yes i) r =
          let f : held_at w (w.start + n) ≡ true = ap (λ (x : ℕ). held_at w (w.start + x)) (sym i) ∙ e in
          rw (f, le-leb lo (w.start + n) (omega arith))
      go (no d) r = or_right (leb lo (w.start + n) && held_at w (w.start + n)) (some_among n w lo) (r (omega arith) e h)

  pub some_held_lem : some_held w lo ≡ true → (p : ℕ) × (held_at w p ≡ true) × (lo ≤ p)
  unfolding some_held
  some_held_lem e = among_held 32 e

  pub held_some : (p : ℕ) → held_at w p ≡ true → lo ≤ p → some_held w lo ≡ true
  unfolding some_held
  held_some p e h =
      let n : w.start ≤ p = held_least w p e in
      let m : p ≤ w.start + 31 = held_most w p e in
      let k : w.start + (p - w.start) ≡ p = omega arith in
      held_among 32 (p - w.start) (omega arith) (ap (held_at w) k ∙ e) (omega arith)

  pub none_held : ((p : ℕ) → held_at w p ≡ true → lo ≤ p → ⊥) → some_held w lo ≡ false
  none_held h = false_from_ne_true (some_held w lo) (λ e. let r = some_held_lem e in h r.0 r.1 r.2)

  pub held_none : some_held w lo ≡ false → (p : ℕ) → held_at w p ≡ true → lo ≤ p → ⊥
  held_none e p h l = true≢false (sym (held_some p h l) ∙ e)
