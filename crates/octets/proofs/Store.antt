-- Laws of stored bytes.
use Prim.Native.Nat.{ℕ, zero, suc, ◌+◌, ◌-◌, ◌≤◌, min}
use mathlib.Core.Path.{◌≡◌, refl, sym, ap, ◌∙◌}
use mathlib.Core.List.{List, [], ◌∷◌, ◌++◌, append-nil, append_assoc}
use native.Mathlib.Decide.{dec_le}
use native.Mathlib.Omega.{arith}
use lib.ListN.{length, set, take, drop, length-set, length-append, length-drop, drop_of_length-le, take-append-drop}
use lib.Seq.{sets, sets-eq, set_out, length-sets, take_all, length-take-le, take_at, take-append-le, drop_at, drop-append-le, drop-drop}
use borrow.Rule.Slice.PartMut.{put_mid}
use Rattle.octets.specs.Bytes.{part, put}
use Rattle.octets.proofs.Codec.{part_length}

-- where the bytes have room: those before, the bytes, those after
pub put_splice : (s b : List ℕ) (i : ℕ) → i + length b ≤ length s → put s i b ≡ take i s ++ (b ++ drop (i + length b) s)
unfolding put
put_splice s b i h = sets-eq b s i h ∙ append_assoc (take i s) b (drop (i + length b) s)

-- a part of the list that holds other bytes afterwards
pub put_part : (s b : List ℕ) (i n : ℕ) → i + n ≤ length s → length b ≡ n → put_mid i n s b ≡ put s i b
put_part s b i n h e =
    ap (λ (r : List ℕ). take i s ++ (b ++ r)) (drop-drop n i s ∙ ap (λ (k : ℕ). drop (i + k) s) (sym e)) ∙ sym (put_splice s b i (omega arith))

pub put_length : (s : List ℕ) (i : ℕ) (b : List ℕ) → length (put s i b) ≡ length s
unfolding put
put_length s i b = length-sets s i b

pub put_nothing : (s : List ℕ) (i : ℕ) → put s i [] ≡ s
unfolding put
put_nothing s i = refl

-- bytes stored, and more where they end, are one store
pub put_then : (a s b : List ℕ) (i k : ℕ) → i + length a ≡ k → put (put s i a) k b ≡ put s i (a ++ b)
unfolding put
put_then [] s b i k e = ap (λ (j : ℕ). sets s j b) (omega arith)
put_then (x ∷ a) s b i k e = put_then a (set s i x) b (suc i) k (omega arith)

-- bytes that fill the whole list
pub put_whole : (s b : List ℕ) → length b ≡ length s → put s 0 b ≡ b
put_whole s b e =
    put_splice s b 0 (omega arith)
    ∙ ap (λ (r : List ℕ). b ++ r) (drop_of_length-le s {i = 0 + length b} (omega arith)) ∙ append-nil b

-- bytes stored over as many others
pub put_over : (s a b : List ℕ) (i : ℕ) → i + length a ≤ length s → length b ≡ length a → put (put s i a) i b ≡ put s i b
put_over s a b i h e =
    let n : length (take i s) ≡ i = length-take-le i s (omega arith) in
    let l : length (put s i a) ≡ length s = put_length s i a in
    let r : List ℕ = drop (i + length a) s in
    let q : put s i a ≡ take i s ++ (a ++ r) = put_splice s a i h in
    let j : i + length b ≡ i + length a = ap (λ (k : ℕ). i + k) e in
    let d : drop (i + length b) (put s i a) ≡ drop (i + length b) s =
    ap (drop (i + length b)) (q ∙ sym (append_assoc (take i s) a r))
    ∙ drop_at (take i s ++ a) r (i + length b) (length-append (take i s) a ∙ omega arith) ∙ ap (λ (k : ℕ). drop k s) (sym j) in
    let t : take i (put s i a) ≡ take i s = ap (take i) q ∙ take_at (take i s) (a ++ r) i n in
    put_splice (put s i a) b i (omega arith)
    ∙ (λ k. t k ++ (b ++ d k))
    ∙ sym (put_splice s b i (omega arith))

-- what was stored is there
pub put_there : (s b : List ℕ) (i : ℕ) → i + length b ≤ length s → part (put s i b) i (length b) ≡ b
put_there s b i h =
    let n : length (take i s) ≡ i = length-take-le i s (omega arith) in
    let r : List ℕ = drop (i + length b) s in
    ap (λ (l : List ℕ). part l i (length b)) (put_splice s b i h)
    ∙ ap (take (length b)) (drop_at (take i s) (b ++ r) i n) ∙ take_at b r (length b) refl

-- a part of the front of a list
part_front : (l r : List ℕ) (j n : ℕ) → j + n ≤ length l → part (l ++ r) j n ≡ part l j n
part_front l r j n h =
    ap (take n) (drop-append-le j l r (omega arith)) ∙ take-append-le n (drop j l) r (omega (arith, length-drop j l))

-- the bytes before and after those stored are as they were
pub put_before : (s b : List ℕ) (i j n : ℕ) → i + length b ≤ length s → j + n ≤ i → part (put s i b) j n ≡ part s j n
put_before s b i j n h l =
    let e : length (take i s) ≡ i = length-take-le i s (omega arith) in
    ap (λ (x : List ℕ). part x j n) (put_splice s b i h)
    ∙ part_front (take i s) (b ++ drop (i + length b) s) j n (omega arith)
    ∙ sym (part_front (take i s) (drop i s) j n (omega arith))
    ∙ ap (λ (x : List ℕ). part x j n) (take-append-drop i s)

pub put_after : (s b : List ℕ) (i j n : ℕ) → i + length b ≤ length s → i + length b ≤ j → part (put s i b) j n ≡ part s j n
put_after s b i j n h l =
    let k : ℕ = i + length b in
    let m : ℕ = j - k in
    let q : k + m ≡ j = omega arith in
    let e : length (take i s ++ b) ≡ k = length-append (take i s) b ∙ ap (λ (x : ℕ). x + length b) (length-take-le i s (omega arith)) in
    let d : drop k (put s i b) ≡ drop k s =
    ap (drop k) (put_splice s b i h ∙ sym (append_assoc (take i s) b (drop k s))) ∙ drop_at (take i s ++ b) (drop k s) k e in
    ap (λ (x : ℕ). part (put s i b) x n) (sym q)
    ∙ ap (take n) (sym (drop-drop m k (put s i b)) ∙ ap (drop m) d ∙ drop-drop m k s)
    ∙ ap (λ (x : ℕ). part s x n) q

-- bytes stored where they stand
pub put_same : (s : List ℕ) (i n : ℕ) → i + n ≤ length s → put s i (part s i n) ≡ s
put_same s i n h =
    let l : length (part s i n) ≡ n = part_length s i n h in
    let d : drop (i + length (part s i n)) s ≡ drop n (drop i s) = ap (λ (k : ℕ). drop (i + k) s) l ∙ sym (drop-drop n i s) in
    put_splice s (part s i n) i (omega arith)
    ∙ ap (λ (r : List ℕ). take i s ++ (part s i n ++ r)) d
    ∙ ap (λ (r : List ℕ). take i s ++ r) (take-append-drop n (drop i s)) ∙ take-append-drop i s

-- bytes stored behind the first ones
put_tail : (b s : List ℕ) (x k : ℕ) → put (x ∷ s) (suc k) b ≡ x ∷ put s k b
unfolding put
put_tail [] s x k = refl
put_tail (v ∷ b) s x k = put_tail b (set s k v) x (suc k)

pub put_behind : (a s b : List ℕ) (i k : ℕ) → k ≡ length a + i → put (a ++ s) k b ≡ a ++ put s i b
put_behind [] s b i k e = ap (λ (j : ℕ). put s j b) (omega arith)
put_behind (x ∷ a) s b i k e =
    let j : ℕ = length a + i in
    ap (λ (n : ℕ). put (x ∷ (a ++ s)) n b) (omega arith) ∙ put_tail b (a ++ s) x j
    ∙ ap (λ (l : List ℕ). x ∷ l) (put_behind a s b i j refl)

-- nothing is stored past the end
pub put_past : (b s : List ℕ) (i : ℕ) → length s ≤ i → put s i b ≡ s
unfolding put
put_past [] s i h = refl
put_past (x ∷ b) s i h =
    ap (λ (l : List ℕ). sets l (suc i) b) (set_out s i x h) ∙ put_past b s (suc i) (omega arith)

-- only as many bytes as there is room for
pub put_room : (b s : List ℕ) (i n : ℕ) → length s ≤ i + n → put s i (take n b) ≡ put s i b
unfolding put
put_room b s i zero h = sym (put_past b s i (omega arith))
put_room [] s i (suc n) h = refl
put_room (x ∷ b) s i (suc n) h = put_room b (set s i x) (suc i) n (rw length-set (omega arith))

-- bytes stored by a copy of as many as there is room for, from an index that was cut to the end
pub store_cut : (b d x : List ℕ) (i from n : ℕ) → from ≡ min i (length d) → n ≡ min (length b) (length d - from) → x ≡ take n b
    → put_mid from n d x ≡ put d i b
store_cut b d x i from n ef en ex =
    ap (put_mid from n d) ex ∙ put_part d (take n b) from n (omega arith) (length-take-le n b (omega arith))
    ∙ short (dec_le (length b) n) ∙ go (dec_le i (length d))
  where
    short : Dec (length b ≤ n) → put d from (take n b) ≡ put d from b
    short (yes h) = ap (put d from) (take_all n b h)
    short (no h) = put_room b d from n (omega arith)

    go : Dec (i ≤ length d) → put d from b ≡ put d i b
    go (yes h) = ap (λ (j : ℕ). put d j b) (omega arith)
    go (no h) = put_past b d from (omega arith) ∙ sym (put_past b d i (omega arith))
