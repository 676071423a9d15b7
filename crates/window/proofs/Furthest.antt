-- The furthest held position by leading zeros, in the word of marks rotated so that the start's mark is its lowest bit.
use Rattle.std.proofs.Common.{◌≡◌, ℕ, suc, ◌+◌, ◌-◌, ◌*◌, ◌/◌, ◌%◌, ◌^◌, ◌<◌, ◌≤◌, max, true, eqb, leb, sym, ap, ◌∙◌, ⊎_elim, mul-one, arith, eq-eqb, eqb-true, le-leb}
use native.Mathlib.Decide.{dec_lt}
use borrow.Author.Tests.{lt-leb}
use lib.Bits.{bit_or}
use lib.Count.{count_leading_zeros, leading_top, leading_of_zero}
use Rattle.numbers.specs.Bit.{bit}
use Rattle.numbers.proofs.Bits.{lt_or_ge, bit_or_lem, bit_shr, bit_shl, bit_shl_below, bit_mod, bit_above, bit_top}
use Rattle.window.specs.declared.Window.{Window}
use Rattle.window.specs.Window.{held_at, some_held, Rotated}
use Rattle.window.proofs.Held.{held_inside, held_least, held_most, held_some, none_held}

-- `(m >> k) | (m << ((32 - k) % 32))`
abbrev pub rotated : ℕ → ℕ → ℕ
rotated m k = bit_or (m / 2 ^ k) (m * 2 ^ ((32 - k) % 32) % 2 ^ 32)

pub rotated_bit : (m k j : ℕ) → m < 2 ^ 32 → k < 32 → j < 32 → bit (rotated m k) j ≡ bit m ((k + j) % 32)
rotated_bit m k j hm hk hj =
    bit_or_lem (m / 2 ^ k) (m * 2 ^ ((32 - k) % 32) % 2 ^ 32) j
    ∙ ap (λ (x : ℕ). max x (bit (m * 2 ^ ((32 - k) % 32) % 2 ^ 32) j)) (bit_shr m k j)
    ∙ ap (max (bit m (k + j))) (bit_mod (m * 2 ^ ((32 - k) % 32)) 32 j hj)
    ∙ go (dec_lt (k + j) 32)
  where
    go : Dec (k + j < 32) → max (bit m (k + j)) (bit (m * 2 ^ ((32 - k) % 32)) j) ≡ bit m ((k + j) % 32)
    go (yes l) = inside (dec_lt 0 k)
      where
        inside : Dec (0 < k) → max (bit m (k + j)) (bit (m * 2 ^ ((32 - k) % 32)) j) ≡ bit m ((k + j) % 32)
        inside (yes a) =
            let e : (32 - k) % 32 ≡ 32 - k = omega arith in
            let f : (k + j) % 32 ≡ k + j = omega arith in
            let z : bit (m * 2 ^ (32 - k)) j ≡ 0 = bit_shl_below m (32 - k) j (omega arith) in
            rw (e, f, z) (omega arith)
        inside (no a) =
            let e : (32 - k) % 32 ≡ 0 = omega arith in
            let f : (k + j) % 32 ≡ j = omega arith in
            let g : k + j ≡ j = omega arith in
            rw (e, f, g, mul-one m) (omega arith)
    go (no n) =
        let i : ℕ = k + j - 32 in
        let e : (32 - k) % 32 ≡ 32 - k = omega arith in
        let f : (k + j) % 32 ≡ i = omega arith in
        let g : (32 - k) + i ≡ j = omega arith in
        let z : bit m (k + j) ≡ 0 = bit_above m 32 (k + j) hm (omega arith) in
        let y : bit (m * 2 ^ (32 - k)) j ≡ bit m i = ap (bit (m * 2 ^ (32 - k))) (sym g) ∙ bit_shl m (32 - k) i in
        rw (e, f, z, y) (omega arith)

-- some held position is at least start + n exactly where the rotated word has a bit from n on
module _ (w : Window) (r : ℕ) (small : r < 2 ^ 32) (is : Rotated w r) where
  pub rotated_held : (j : ℕ) → j < 32 → held_at w (w.start + j) ≡ eqb (bit r j) 1
  rotated_held j h = held_inside w (w.start + j) (omega arith) (omega arith) ∙ ap (λ (n : ℕ). eqb n 1) (sym (is j h))

  -- a held position from start + n on has its bit, from n on
  held_bit : (n p : ℕ) → held_at w p ≡ true → w.start + n ≤ p → (j : ℕ) × (n ≤ j) × (bit r j ≡ 1)
  held_bit n p e l =
      let a : w.start ≤ p = held_least w p e in
      let b : p ≤ w.start + 31 = held_most w p e in
      let q : w.start + (p - w.start) ≡ p = omega arith in
      (p - w.start, omega arith, eqb-true _ _ (sym (rotated_held (p - w.start) (omega arith)) ∙ ap (held_at w) q ∙ e))

  none : (n : ℕ) → n ≤ 31 → r ≤ 0 → leb (count_leading_zeros 32 r + n) 31 ≡ some_held w (w.start + n)
  none n h z =
      let e : r ≡ 0 = omega arith in
      let f : count_leading_zeros 32 r ≡ 32 = ap (count_leading_zeros 32) e ∙ leading_of_zero 32 in
      lt-leb (count_leading_zeros 32 r + n) 31 (omega arith)
      ∙ sym (none_held w (w.start + n) (λ p g l. let b = held_bit n p g l in omega (arith, b.2, bit_above r 0 b.0 (omega arith) (omega arith))))

  some : (n : ℕ) → n ≤ 31 → (j : ℕ) × (count_leading_zeros 32 r + suc j ≡ 32) × (2 ^ j ≤ r) × (r < 2 ^ suc j)
      → leb (count_leading_zeros 32 r + n) 31 ≡ some_held w (w.start + n)
  some n h t = go (dec_lt t.0 n)
    where
      go : Dec (t.0 < n) → leb (count_leading_zeros 32 r + n) 31 ≡ some_held w (w.start + n)
      go (yes l) =
          lt-leb (count_leading_zeros 32 r + n) 31 (omega (arith, t.1))
          ∙ sym (none_held w (w.start + n) (λ p g a. let b = held_bit n p g a in omega (arith, b.2, b.1, bit_above r (suc t.0) b.0 t.3 (omega (arith, b.1)))))
      go (no a) =
          le-leb (count_leading_zeros 32 r + n) 31 (omega (arith, t.1))
          ∙ sym (held_some w (w.start + n) (w.start + t.0) (rotated_held t.0 (omega (arith, t.1)) ∙ eq-eqb _ _ (bit_top r t.0 t.2 t.3)) (omega arith))

  pub by_leading_zeros : (n : ℕ) → n ≤ 31 → leb (count_leading_zeros 32 r + n) 31 ≡ some_held w (w.start + n)
  by_leading_zeros n h = ⊎_elim (λ a. some n h (leading_top 32 r a small)) (λ a. none n h a) (lt_or_ge 0 r)
