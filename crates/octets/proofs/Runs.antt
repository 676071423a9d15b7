-- Runs of numbers of one width to bytes and back, over the width and the number of items.
use Prim.Native.Nat.{ℕ, zero, suc, ◌+◌, ◌*◌, ◌^◌, ◌<◌, ◌≤◌}
use mathlib.Core.Path.{◌≡◌, refl, sym, ap, ap₂, ◌∙◌}
use mathlib.Core.List.{List, [], ◌∷◌, ◌++◌}
use native.Mathlib.Nat.{mul-zero, mul-suc, mod-eq_of_lt}
use native.Mathlib.Omega.{arith}
use lib.ListN.{length, get_or, take, drop, length-append}
use lib.Seq.{take-add, take_at, drop_at, drop-drop}
use Rattle.octets.specs.Bytes.{nat_at, octets_of, part, Octets}
use Rattle.octets.specs.Table.{nats_at, octets_of_all}
use Rattle.octets.proofs.Fill.{table_same}
use Rattle.octets.proofs.Codec.{octets_length, part_length, write_read, read_write}

pub all_length : (w : ℕ) (xs : List ℕ) → length (octets_of_all w xs) ≡ w * length xs
unfolding octets_of_all
all_length w [] = sym (mul-zero w)
all_length w (x ∷ xs) =
    length-append (octets_of w x) (octets_of_all w xs) ∙ omega (arith, octets_length w x, all_length w xs, mul-suc w (length xs))

-- a part in two
pub part_add : (s : List ℕ) (i m n : ℕ) → part s i (m + n) ≡ part s i m ++ part s (i + m) n
part_add s i m n = take-add m n (drop i s) ∙ ap (λ (l : List ℕ). part s i m ++ take n l) (drop-drop m i s)

-- the first number, and the others
nats_suc : (s : List ℕ) (i w n : ℕ) → nats_at s i w (suc n) ≡ nat_at s i w ∷ nats_at s (i + w) w n
unfolding nats_at
nats_suc s i w n =
    let z : nat_at s (i + w * 0) w ≡ nat_at s i w = ap (λ (j : ℕ). nat_at s j w) (omega (arith, mul-zero w)) in
    let r = table_same n (λ k. nat_at s (i + w * suc k) w) (λ k. nat_at s (i + w + w * k) w) (λ k. ap (λ (j : ℕ). nat_at s j w) (omega (arith, mul-suc w k))) in
    λ j. z j ∷ r j

-- numbers that were read, written again: their bytes
pub write_read_all : (w n : ℕ) (s : List ℕ) (i : ℕ) → Octets s → i + w * n ≤ length s → octets_of_all w (nats_at s i w n) ≡ part s i (w * n)
unfolding octets_of_all nats_at
write_read_all w zero s i o h = ap (part s i) (sym (mul-zero w))
write_read_all w (suc n) s i o h =
    let m : w * suc n ≡ w + w * n = omega (arith, mul-suc w n) in
    ap (octets_of_all w) (nats_suc s i w n)
    ∙ ap₂ (λ (a b : List ℕ). a ++ b) (write_read w s i o (omega arith)) (write_read_all w n s (i + w) o (omega arith))
    ∙ sym (part_add s i w (w * n)) ∙ ap (part s i) (sym m)

-- numbers that were written, read again: the numbers
pub read_write_all : (w : ℕ) (xs : List ℕ) (s : List ℕ) (i : ℕ) → i + w * length xs ≤ length s → ((k : ℕ) → get_or xs k 0 < 256 ^ w)
    → part s i (w * length xs) ≡ octets_of_all w xs → nats_at s i w (length xs) ≡ xs
unfolding octets_of_all nats_at
read_write_all w [] s i h b e = refl
read_write_all w (x ∷ xs) s i h b e =
    let m : w * suc (length xs) ≡ w + w * length xs = omega (arith, mul-suc w (length xs)) in
    let l : length (part s i w) ≡ w = part_length s i w (omega arith) in
    let both : part s i w ++ part s (i + w) (w * length xs) ≡ octets_of w x ++ octets_of_all w xs =
    sym (part_add s i w (w * length xs)) ∙ ap (part s i) (sym m) ∙ e in
    let head : part s i w ≡ octets_of w x =
    sym (take_at (part s i w) (part s (i + w) (w * length xs)) w l) ∙ ap (take w) both ∙ take_at (octets_of w x) (octets_of_all w xs) w (octets_length w x) in
    let rest : part s (i + w) (w * length xs) ≡ octets_of_all w xs =
    sym (drop_at (part s i w) (part s (i + w) (w * length xs)) w l) ∙ ap (drop w) both ∙ drop_at (octets_of w x) (octets_of_all w xs) w (octets_length w x) in
    nats_suc s i w (length xs)
    ∙ ap₂ (λ (y : ℕ) (ys : List ℕ). y ∷ ys) (read_write w s i x head (b 0))
    (read_write_all w xs s (i + w) (omega arith) (λ k. b (suc k)) rest)

-- bytes are their own bytes
pub all_bytes : (xs : List ℕ) → Octets xs → octets_of_all 1 xs ≡ xs
unfolding octets_of_all
all_bytes [] o = refl
all_bytes (x ∷ xs) o = ap₂ (λ (y : ℕ) (l : List ℕ). y ∷ l) (mod-eq_of_lt (o 0)) (all_bytes xs (λ k. o (suc k)))
