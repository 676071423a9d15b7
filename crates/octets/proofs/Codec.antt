-- Numbers to bytes and back, over the width.
use Prim.Native.Nat.{ℕ, zero, suc, ◌+◌, ◌*◌, ◌/◌, ◌%◌, ◌^◌, ◌<◌, ◌≤◌}
use mathlib.Core.Path.{◌≡◌, refl, sym, ap, ap₂, ◌∙◌}
use mathlib.Core.List.{List, [], ◌∷◌, ◌++◌, append-nil, append_assoc}
use native.Mathlib.Nat.{add-zero, add-suc, pow-zero, pow-suc, div-div-eq-div-mul, mul_comm, mul_assoc, mod-lt, div-add-mod'}
use native.Mathlib.Omega.{arith}
use lib.ListN.{length, get_or, take, drop, length-drop, get_or-append}
use lib.Seq.{drop-cons, take-suc, get_or-drop, get_or-take, get_or_at, length-take-le, ext_get_or}
use Rattle.octets.specs.Bytes.{nat_at, octets_of, part, Octets}
pub use Rattle.octets.specs.Word.{octets_length}
use Rattle.octets.specs.Table.{table, octets_at}
use Rattle.octets.proofs.Fill.{table_length, table_at}
use Rattle.octets.proofs.Read.{nat_suc, nat_same}

-- the last byte apart
octets_last : (n x : ℕ) → octets_of (suc n) x ≡ octets_of n (x / 256) ++ (x % 256 ∷ [])
octets_last zero x = refl
octets_last (suc zero) x = refl
octets_last (suc (suc n)) x =
    let e : x / 256 ^ suc (suc n) ≡ x / 256 / 256 ^ suc n =
    ap (λ (p : ℕ). x / p) (pow-suc 256 (suc n) ∙ mul_comm (256 ^ suc n) 256) ∙ sym (div-div-eq-div-mul x 256 (256 ^ suc n)) in
    ap₂ (λ (y : ℕ) (l : List ℕ). y % 256 ∷ l) e (octets_last (suc n) x)

-- each is a byte
pub octets_bytes : (n x : ℕ) → Octets (octets_of n x)
octets_bytes zero x k = omega arith
octets_bytes (suc zero) x zero = mod-lt x (omega arith)
octets_bytes (suc zero) x (suc k) = omega arith
octets_bytes (suc (suc n)) x zero = mod-lt (x / 256 ^ suc n) (omega arith)
octets_bytes (suc (suc n)) x (suc k) = octets_bytes (suc n) x k

-- two numbers side by side
pub octets_split : (m n x y : ℕ) → y < 256 ^ n → octets_of (m + n) (x * 256 ^ n + y) ≡ octets_of m x ++ octets_of n y
octets_split m zero x y h =
    let e : y ≡ 0 = omega (arith, pow-zero 256) in
    ap₂ octets_of (add-zero m) (rw (e, pow-zero 256) (omega arith)) ∙ sym (append-nil (octets_of m x))
octets_split m (suc n) x y h =
    let p : ℕ = 256 ^ n in
    let e : 256 ^ suc n ≡ p * 256 = pow-suc 256 n in
    let q : x * 256 ^ suc n ≡ x * p * 256 = ap (λ (k : ℕ). x * k) e ∙ sym (mul_assoc x p 256) in
    let high : (x * 256 ^ suc n + y) / 256 ≡ x * p + y / 256 = omega arith in
    let low : (x * 256 ^ suc n + y) % 256 ≡ y % 256 = omega arith in
    ap (λ (k : ℕ). octets_of k (x * 256 ^ suc n + y)) (add-suc m n) ∙ octets_last (m + n) (x * 256 ^ suc n + y)
    ∙ ap₂ (λ (u v : ℕ). octets_of (m + n) u ++ (v ∷ [])) high low
    ∙ ap (λ (l : List ℕ). l ++ (y % 256 ∷ [])) (octets_split m n x (y / 256) (omega arith))
    ∙ append_assoc (octets_of m x) (octets_of n (y / 256)) (y % 256 ∷ [])
    ∙ ap (λ (l : List ℕ). octets_of m x ++ l) (sym (octets_last n y))

pub part_length : (s : List ℕ) (i n : ℕ) → i + n ≤ length s → length (part s i n) ≡ n
part_length s i n h = length-take-le n (drop i s) (rw length-drop (omega arith))

pub part_at : (s : List ℕ) (i n k : ℕ) → k < n → get_or (part s i n) k 0 ≡ get_or s (i + k) 0
part_at s i n k h = get_or-take n (drop i s) k 0 h ∙ get_or-drop i s k 0

part_last : (s : List ℕ) (i n : ℕ) → i + suc n ≤ length s → part s i (suc n) ≡ part s i n ++ (get_or s (i + n) 0 ∷ [])
part_last s i n h =
    take-suc (drop i s) n 0 (rw length-drop (omega arith)) ∙ ap (λ (b : ℕ). part s i n ++ (b ∷ [])) (get_or-drop i s n 0)

-- a column of one byte
pub part_one : (s : List ℕ) (i : ℕ) → i < length s → part s i 1 ≡ get_or s i 0 ∷ []
part_one s i h = ap (take 1) (drop-cons s i 0 h)

pub read_one : (s : List ℕ) (i x : ℕ) → part s i 1 ≡ x ∷ [] → get_or s i 0 ≡ x
read_one s i x e = ap (λ (j : ℕ). get_or s j 0) (sym (add-zero i)) ∙ sym (part_at s i 1 0 (omega arith)) ∙ ap (λ (t : List ℕ). get_or t 0 0) e

-- a number that was read, written again: its bytes
pub write_read : (n : ℕ) (s : List ℕ) (i : ℕ) → Octets s → i + n ≤ length s → octets_of n (nat_at s i n) ≡ part s i n
write_read zero s i o h = refl
write_read (suc n) s i o h =
    let b : ℕ = get_or s (i + n) 0 in
    let l : b < 256 = o (i + n) in
    let x : ℕ = nat_at s i n in
    ap (octets_of (suc n)) (nat_suc s i n) ∙ octets_last n (x * 256 + b)
    ∙ ap₂ (λ (u v : ℕ). octets_of n u ++ (v ∷ [])) (omega arith) (omega arith)
    ∙ ap (λ (l : List ℕ). l ++ (b ∷ [])) (write_read n s i o (omega arith))
    ∙ sym (part_last s i n h)

octets_number : (n x : ℕ) → x < 256 ^ n → nat_at (octets_of n x) 0 n ≡ x
octets_number zero x h = omega (arith, pow-zero 256)
octets_number (suc n) x h =
    let e : 256 ^ suc n ≡ 256 ^ n * 256 = pow-suc 256 n in
    let p : List ℕ = octets_of n (x / 256) in
    let s : List ℕ = p ++ (x % 256 ∷ []) in
    let l : length p ≡ n = octets_length n (x / 256) in
    let d : nat_at s 0 n ≡ nat_at p 0 n =
    nat_same s p 0 0 n (λ k q. get_or-append p (x % 256 ∷ []) 0 (0 + k) (omega arith)) in
    let z : get_or s (0 + n) 0 ≡ x % 256 = get_or_at p (x % 256) [] 0 (0 + n) (omega arith) in
    ap (λ (t : List ℕ). nat_at t 0 (suc n)) (octets_last n x) ∙ nat_suc s 0 n
    ∙ ap₂ (λ (u v : ℕ). u * 256 + v) (d ∙ octets_number n (x / 256) (omega arith)) z ∙ div-add-mod' x 256

-- a number that was written, read again: the number
pub read_write : (n : ℕ) (s : List ℕ) (i x : ℕ) → part s i n ≡ octets_of n x → x < 256 ^ n → nat_at s i n ≡ x
read_write n s i x e h =
    nat_same s (part s i n) i 0 n (λ k q. sym (ap (λ (j : ℕ). get_or (part s i n) j 0) (omega arith) ∙ part_at s i n k q))
    ∙ ap (λ (t : List ℕ). nat_at t 0 n) e ∙ octets_number n x h

-- bytes within the list: their table is the part
pub octets_part : (s : List ℕ) (i n : ℕ) → i + n ≤ length s → octets_at s i n ≡ part s i n
unfolding octets_at
octets_part s i n h =
    let f : ℕ → ℕ = λ k. get_or s (i + k) 0 in
    ext_get_or 0 (table n f) (part s i n) (table_length n f ∙ sym (part_length s i n h))
    (λ k q. let l : k < n = rw (table_length n f) at q in table_at n f k 0 l ∙ sym (part_at s i n k l))
