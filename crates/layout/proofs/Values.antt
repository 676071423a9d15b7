-- A column's numbers to bytes and back, over the sign, the width and the number of items.
use Prim.Native.Nat.{ℕ, zero, suc, ◌+◌, ◌*◌, ◌^◌, ◌≤◌}
use mathlib.Core.Path.{◌≡◌, refl, sym, ap, ◌∙◌}
use mathlib.Core.List.{List, [], ◌∷◌, map}
use native.Mathlib.Nat.{pow-suc, mul-suc}
use native.Mathlib.Omega.{arith}
use lib.IntN.{ℤ, pos}
use lib.Pow.{pow-add}
use lib.ListN.{length, get_or, length-map, get_or-map}
use Rattle.octets.specs.Bytes.{nat_at, int_at, signed, complemented, octets_of, part, Octets, SignedFits}
use Rattle.octets.specs.Table.{table, nats_at, ints_at, octets_of_all}
use Rattle.octets.proofs.Fill.{table_same, map_table}
use Rattle.octets.proofs.Read.{nat_lt}
use Rattle.octets.proofs.Codec.{octets_length, write_read, read_write}
use Rattle.octets.proofs.Complement.{complemented_lt, signed_complemented, complemented_signed}
use Rattle.octets.proofs.Runs.{all_length, write_read_all, read_write_all}
use Rattle.layout.specs.Column.{Sign, unsigned, complement, Number, number_at, numbers_at, number_octets, numbers_octets, Holds, HoldsAll}

-- 8 w bits are w bytes
byte_bits : (w : ℕ) → 2 ^ (8 * w) ≡ 256 ^ w
byte_bits zero = refl
byte_bits (suc w) =
    ap (λ (k : ℕ). 2 ^ k) (mul-suc 8 w) ∙ pow-add 2 (8 * w) 8 ∙ ap (λ (n : ℕ). n * 256) (byte_bits w) ∙ sym (pow-suc 256 w)

pub number_length : (g : Sign) (w : ℕ) (x : Number g) → length (number_octets g w x) ≡ w
number_length unsigned w x = octets_length w x
number_length complement w z = octets_length w (complemented (8 * w) z)

pub numbers_length : (g : Sign) (w : ℕ) (xs : List (Number g)) → length (numbers_octets g w xs) ≡ w * length xs
numbers_length unsigned w xs = all_length w xs
numbers_length complement w zs = all_length w (map (complemented (8 * w)) zs) ∙ ap (λ (n : ℕ). w * n) (length-map zs (complemented (8 * w)))

-- integers that fit, as bits and back
map_back : (b : ℕ) (zs : List ℤ) → 1 ≤ b → ((k : ℕ) → SignedFits b (get_or zs k (pos 0))) → map (signed b) (map (complemented b) zs) ≡ zs
map_back b [] l h = refl
map_back b (z ∷ zs) l h =
    let e = signed_complemented b z l (h 0) in
    let r = map_back b zs l (λ k. h (suc k)) in
    λ i. e i ∷ r i

module _ (w : ℕ) (some : 1 ≤ w) where
  bits : 1 ≤ 8 * w
  bits = omega arith

  -- a number that was read, written again: its bytes
  pub write_number : (g : Sign) (s : List ℕ) (i : ℕ) → Octets s → i + w ≤ length s → number_octets g w (number_at g s i w) ≡ part s i w
  write_number unsigned s i o h = write_read w s i o h
  write_number complement s i o h =
      ap (octets_of w) (complemented_signed (8 * w) (nat_at s i w) bits (rw (byte_bits w) (nat_lt s i w o))).0 ∙ write_read w s i o h

  -- a number that was written, read again: the number
  pub read_number : (g : Sign) (s : List ℕ) (i : ℕ) (x : Number g) → Holds g w x → part s i w ≡ number_octets g w x → number_at g s i w ≡ x
  read_number unsigned s i x h e = read_write w s i x e h
  read_number complement s i z h e =
      ap (signed (8 * w)) (read_write w s i (complemented (8 * w) z) e (rw (sym (byte_bits w)) (complemented_lt (8 * w) z bits h)))
      ∙ signed_complemented (8 * w) z bits h

  -- what is read fits
  pub number_holds : (g : Sign) (s : List ℕ) (i : ℕ) → Octets s → Holds g w (number_at g s i w)
  number_holds unsigned s i o = nat_lt s i w o
  number_holds complement s i o = (complemented_signed (8 * w) (nat_at s i w) bits (rw (byte_bits w) (nat_lt s i w o))).1

  -- the same for several numbers
  pub write_numbers : (g : Sign) (n : ℕ) (s : List ℕ) (i : ℕ) → Octets s → i + w * n ≤ length s
      → numbers_octets g w (numbers_at g s i w n) ≡ part s i (w * n)
  unfolding nats_at ints_at
  write_numbers unsigned n s i o h = write_read_all w n s i o h
  write_numbers complement n s i o h =
      ap (octets_of_all w)
      (map_table (complemented (8 * w)) n (λ k. int_at s (i + w * k) w)
      ∙ table_same n _ (λ k. nat_at s (i + w * k) w)
      (λ k. (complemented_signed (8 * w) (nat_at s (i + w * k) w) bits (rw (byte_bits w) (nat_lt s (i + w * k) w o))).0))
      ∙ write_read_all w n s i o h

  pub read_numbers : (g : Sign) (xs : List (Number g)) (s : List ℕ) (i : ℕ) → i + w * length xs ≤ length s → HoldsAll g w xs
      → part s i (w * length xs) ≡ numbers_octets g w xs → numbers_at g s i w (length xs) ≡ xs
  unfolding nats_at ints_at
  read_numbers unsigned xs s i l h e = read_write_all w xs s i l h e
  read_numbers complement zs s i l h e =
      let f : ℤ → ℕ = complemented (8 * w) in
      let n : length (map f zs) ≡ length zs = length-map zs f in
      let numbers : nats_at s i w (length (map f zs)) ≡ map f zs =
      read_write_all w (map f zs) s i (rw n l)
      (λ k. rw (get_or-map f zs k (pos 0)) (rw (sym (byte_bits w)) (complemented_lt (8 * w) (get_or zs k (pos 0)) bits (h k))))
      (ap (λ (m : ℕ). part s i (w * m)) n ∙ e) in
      ap (λ (m : ℕ). table m (λ k. int_at s (i + w * k) w)) (sym n)
      ∙ sym (map_table (signed (8 * w)) (length (map f zs)) (λ k. nat_at s (i + w * k) w))
      ∙ ap (map (signed (8 * w))) numbers
      ∙ map_back (8 * w) zs bits h
