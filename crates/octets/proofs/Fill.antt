-- A list filled from the front by a loop, one element a turn, until it is a table: one law for every element type, length and rule.
use Prim.Native.Nat.{ℕ, zero, suc, ◌+◌, ◌-◌, ◌<◌, ◌≤◌}
use mathlib.Core.Path.{◌≡◌, refl, sym, ap, ◌∙◌}
use mathlib.Core.List.{List, [], ◌∷◌, ◌++◌, map, append-nil}
use native.Mathlib.Nat.{not-suc-le-zero, le_of_suc-le-suc, one-mul}
use native.Mathlib.Numerals.{add-one}
use native.Mathlib.Omega.{arith}
use lib.ListN.{length, get_or, set, take, drop, replicate}
use lib.Seq.{get_or-drop, take_all}
use Rattle.octets.specs.Table.{table, octets_at, nats_at}

-- the first j elements of the table of f, then the elements of d
abbrev pub front : {A : Type 0} → (ℕ → A) → List A → ℕ → List A
front f d zero = d
front f [] (suc j) = []
front f (x ∷ d) (suc j) = f 0 ∷ front (λ k. f (suc k)) d j

front_suc : {A : Type 0} (f : ℕ → A) (d : List A) (j : ℕ) → j < length d → set (front f d j) j (f j) ≡ front f d (suc j)
front_suc f [] j h = absurd (not-suc-le-zero h)
front_suc f (x ∷ d) zero h = refl
front_suc {A} f (x ∷ d) (suc j) h = ap (λ (l : List A). f 0 ∷ l) (front_suc (λ k. f (suc k)) d j (le_of_suc-le-suc h))

front_all : {A : Type 0} (f : ℕ → A) (d : List A) → front f d (length d) ≡ table (length d) f
front_all f [] = refl
front_all {A} f (x ∷ d) = ap (λ (l : List A). f 0 ∷ l) (front_all (λ k. f (suc k)) d)

-- the loop's invariant: d is the list before the loop, a the list now, j the elements stored
abbrev pub Filled : {A : Type 0} → (ℕ → A) → List A → List A → ℕ → Type 0
Filled f d a j = (j ≤ length d) × (a ≡ front f d j)

-- the length stays
pub front_length : {A : Type 0} (f : ℕ → A) (d : List A) (j : ℕ) → length (front f d j) ≡ length d
front_length f d zero = refl
front_length f [] (suc j) = refl
front_length f (x ∷ d) (suc j) = ap suc (front_length (λ k. f (suc k)) d j)

-- one element more
pub fill_more : {A : Type 0} (f : ℕ → A) (d a : List A) (j : ℕ) (v : A) → j < length d → v ≡ f j
    → Filled f d a j → Filled f d (set a j v) (j + 1)
fill_more f d a j v h e inv = (omega arith, rw (e, inv.1, add-one) (front_suc f d j h))

-- the whole
pub fill_done : {A : Type 0} (f : ℕ → A) (d a : List A) (j : ℕ) → length d ≤ j → Filled f d a j → a ≡ table (length d) f
fill_done f d a j h inv =
    let e : j ≡ length d = omega (arith, inv.0) in
    inv.1 ∙ ap (front f d) e ∙ front_all f d

-- a table's length and elements
pub table_length : {A : Type 0} (n : ℕ) (f : ℕ → A) → length (table n f) ≡ n
table_length zero f = refl
table_length (suc n) f = ap suc (table_length n (λ k. f (suc k)))

pub table_at : {A : Type 0} (n : ℕ) (f : ℕ → A) (j : ℕ) (d : A) → j < n → get_or (table n f) j d ≡ f j
table_at zero f j d h = absurd (not-suc-le-zero h)
table_at (suc n) f zero d h = refl
table_at (suc n) f (suc j) d h = table_at n (λ k. f (suc k)) j d (le_of_suc-le-suc h)

-- tables of rules that agree at each index are equal
pub table_same : {A : Type 0} (n : ℕ) (f g : ℕ → A) → ((k : ℕ) → f k ≡ g k) → table n f ≡ table n g
table_same zero f g e = refl
table_same (suc n) f g e = let t = table_same n (λ k. f (suc k)) (λ k. g (suc k)) (λ k. e (suc k)) in λ i. e 0 i ∷ t i

-- it is enough that they agree at the table's own indices
pub table_below : {A : Type 0} (n : ℕ) (f g : ℕ → A) → ((k : ℕ) → k < n → f k ≡ g k) → table n f ≡ table n g
table_below zero f g e = refl
table_below (suc n) f g e =
    let z = e 0 (omega arith) in
    let t = table_below n (λ k. f (suc k)) (λ k. g (suc k)) (λ k h. e (suc k) (omega arith)) in
    λ i. z i ∷ t i

-- a list is the table of its elements
pub table_self : {A : Type 0} (xs : List A) (d : A) → table (length xs) (λ k. get_or xs k d) ≡ xs
table_self [] d = refl
table_self {A} (x ∷ xs) d = ap (λ (l : List A). x ∷ l) (table_self xs d)

-- a rule applied to each element of a list is the table of the rule at the elements
pub table_map : {A B : Type 0} (g : A → B) (xs : List A) (d : A) → table (length xs) (λ k. g (get_or xs k d)) ≡ map g xs
table_map g [] d = refl
table_map {A} {B} g (x ∷ xs) d = ap (λ (l : List B). g x ∷ l) (table_map g xs d)

-- and to each element of a table
pub map_table : {A B : Type 0} (g : A → B) (n : ℕ) (f : ℕ → A) → map g (table n f) ≡ table n (λ k. g (f k))
map_table g zero f = refl
map_table {A} {B} g (suc n) f = ap (λ (l : List B). g (f 0) ∷ l) (map_table g n (λ k. f (suc k)))

-- a shorter table of the same rule
pub table_front : {A : Type 0} (m n : ℕ) (f : ℕ → A) → m ≤ n → table m f ≡ take m (table n f)
table_front zero n f h = refl
table_front (suc m) zero f h = absurd (not-suc-le-zero h)
table_front {A} (suc m) (suc n) f h = ap (λ (l : List A). f 0 ∷ l) (table_front m n (λ k. f (suc k)) (le_of_suc-le-suc h))

-- the bytes from an index on: how many
pub octets_count : (s : List ℕ) (i n : ℕ) → length (octets_at s i n) ≡ n
unfolding octets_at
octets_count s i n = table_length n (λ k. get_or s (i + k) 0)

zeros : (n : ℕ) → table {A = ℕ} n (λ k. 0) ≡ replicate n 0
zeros zero = refl
zeros (suc n) = ap (λ (l : List ℕ). 0 ∷ l) (zeros n)

-- the first n elements of a list, and zeros for those that it lacks
padded : (n : ℕ) (r : List ℕ) → table n (λ k. get_or r k 0) ≡ take n r ++ replicate (n - length r) 0
padded zero r = let e : 0 - length r ≡ 0 = omega arith in rw e refl
padded (suc n) [] = let e : suc n - 0 ≡ suc n = omega arith in rw e (zeros (suc n))
padded (suc n) (x ∷ r) =
    let e : suc n - suc (length r) ≡ n - length r = omega arith in
    rw e (ap (λ (l : List ℕ). x ∷ l) (padded n r))

rest_padded : (s : List ℕ) (i n : ℕ) → octets_at s i n ≡ take n (drop i s) ++ replicate (n - length (drop i s)) 0
unfolding octets_at
rest_padded s i n = table_same n _ _ (λ k. sym (get_or-drop i s k 0)) ∙ padded n (drop i s)

-- the bytes from an index on, of those that are there and of those and zeros
module _ (s rest : List ℕ) (i n : ℕ) (e : rest ≡ drop i s) where
  whole : take n rest ++ replicate (n - length rest) 0 ≡ octets_at s i n
  whole = ap (λ (r : List ℕ). take n r ++ replicate (n - length r) 0) e ∙ sym (rest_padded s i n)

  pub rest_within : n ≤ length rest → take n rest ≡ octets_at s i n
  rest_within h = let z : n - length rest ≡ 0 = omega arith in sym (append-nil (take n rest)) ∙ ap (λ (m : ℕ). take n rest ++ replicate m 0) (sym z) ∙ whole

  pub rest_past : length rest ≤ n → rest ++ replicate (n - length rest) 0 ≡ octets_at s i n
  rest_past h = ap (λ (r : List ℕ). r ++ replicate (n - length rest) 0) (sym (take_all n rest h)) ∙ whole

  -- whether they are there or not
  pub rest_whole : octets_at rest 0 n ≡ octets_at s i n
  unfolding octets_at
  rest_whole = table_same n _ _ (λ k. let z : 0 + k ≡ k = omega arith in ap (λ (r : List ℕ). get_or r (0 + k) 0) e ∙ ap (λ (j : ℕ). get_or (drop i s) j 0) z ∙ get_or-drop i s k 0)

-- a shorter run is the front of a longer one
pub octets_front : (s : List ℕ) (i m n : ℕ) → m ≤ n → octets_at s i m ≡ take m (octets_at s i n)
unfolding octets_at
octets_front s i m n h = table_front m n (λ k. get_or s (i + k) 0) h

-- bytes are numbers of one byte each
pub octets_numbers : (s : List ℕ) (i n : ℕ) → octets_at s i n ≡ nats_at s i 1 n
unfolding octets_at nats_at
octets_numbers s i n = table_same n _ _ (λ k. ap (λ (j : ℕ). get_or s (i + j) 0) (sym (one-mul k)))
