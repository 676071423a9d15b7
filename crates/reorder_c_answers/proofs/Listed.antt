-- Descriptions stored as numbers, one after the other.
use Prim.Native.Nat.{ℕ, suc, ◌+◌, ◌-◌, ◌*◌, ◌<◌, ◌≤◌}
use mathlib.Core.Path.{◌≡◌, refl, sym, ap, ◌∙◌}
use mathlib.Core.List.{List, [], ◌∷◌, ◌++◌, map, append_assoc}
use native.Mathlib.Numerals.{add-one}
use native.Mathlib.Omega.{arith}
use lib.ListN.{length, get_or, take, replicate, length-append, length-map}
use Rattle.std.proofs.lemmas.List.{map-append}
use lib.Seq.{take-suc, take_all, length-take-le}
use Rattle.octets.specs.Bytes.{put}
use Rattle.octets.proofs.Store.{put_then, put_nothing, put_length, put_whole, put_behind}
use Rattle.reorder_turn.specs.declared.Description.{Description}
use Rattle.reorder_rules.specs.declared.Turn.{Turn}
use Rattle.reorder_turn.specs.Described.{no_description, described, described_all}
use Rattle.reorder_c_answers.specs.Listed.{listed, described_in}
use Rattle.reorder_serve.specs.Places.{stored_all}
use Rattle.reorder_serve.proofs.Stored.{stored_fills}

pub listed_append : (a b : List Description) → listed (a ++ b) ≡ listed a ++ listed b
listed_append [] b = refl
listed_append (d ∷ a) b = ap (λ (l : List ℕ). d.kind ∷ d.position ∷ l) (listed_append a b)

pub listed_length : (ds : List Description) → length (listed ds) ≡ 2 * length ds
listed_length [] = refl
listed_length (d ∷ ds) = let e : length (listed ds) ≡ 2 * length ds = listed_length ds in omega arith

-- the loop's invariant: of the descriptions, i stand in the numbers
abbrev pub Stored : List Description → List ℕ → List ℕ → ℕ → Type 0
Stored ds old l i = (i ≤ length ds) × (l ≡ put old 0 (listed (take i ds)))

pub stored_none : (ds : List Description) (old : List ℕ) → Stored ds old old 0
stored_none ds old = (omega arith, sym (put_nothing old 0))

pub stored_more : (ds : List Description) (old l : List ℕ) (i : ℕ) → i < length ds → Stored ds old l i
    → Stored ds old (put l (2 * i) (listed (get_or ds i no_description ∷ []))) (i + 1)
stored_more ds old l i h s =
    let d : Description = get_or ds i no_description in
    let t : List Description = take i ds in
    let n : length (listed t) ≡ 2 * i = listed_length t ∙ ap (λ (k : ℕ). 2 * k) (length-take-le i ds (omega arith)) in
    let u : take (i + 1) ds ≡ t ++ (d ∷ []) = ap (λ (k : ℕ). take k ds) (add-one i) ∙ take-suc ds i no_description (omega arith) in (
      omega arith,
      ap (λ (z : List ℕ). put z (2 * i) (listed (d ∷ []))) s.1
          ∙ put_then (listed t) old (listed (d ∷ [])) 0 (2 * i) (omega arith)
          ∙ ap (put old 0) (sym (listed_append t (d ∷ [])) ∙ ap listed (sym u)),
    )

pub stored_length : (ds : List Description) (old l : List ℕ) (i : ℕ) → Stored ds old l i → length l ≡ length old
stored_length ds old l i s = ap length s.1 ∙ put_length old 0 (listed (take i ds))

-- all of as many as there is room for are the numbers
pub stored_whole : (ds : List Description) (old l : List ℕ) (i : ℕ) → length ds ≤ i → length old ≡ 2 * length ds → Stored ds old l i → l ≡ listed ds
stored_whole ds old l i h n s =
    s.1
    ∙ ap (λ (z : List Description). put old 0 (listed z)) (take_all i ds (omega arith))
    ∙ put_whole old (listed ds) (omega (arith, listed_length ds))

-- one answer more, described behind those before it
pub described_last : (ts : List Turn) (t : Turn) → length ts < 32
    → described_in (listed (described_all ts)) (length ts) t ≡ listed (described_all (ts ++ (t ∷ [])))
unfolding described_all put
described_last ts t h =
    let m : ℕ = 32 - length (ts ++ (t ∷ [])) in
    let e : 32 - length ts ≡ suc m = omega (arith, length-append ts (t ∷ [])) in
    let ds : List Description = map described ts in
    let r : List Description = replicate m no_description in
    ap (λ (k : ℕ). described_in (listed (ds ++ replicate k no_description)) (length ts) t) e
    ∙ ap (λ (l : List ℕ). described_in l (length ts) t) (listed_append ds (no_description ∷ r))
    ∙ put_behind (listed ds) (listed (no_description ∷ r)) (listed (described t ∷ [])) 0 (2 * length ts) (omega (arith, listed_length ds, length-map ts described))
    ∙ sym (listed_append ds (described t ∷ r))
    ∙ ap listed (sym (append_assoc ds (described t ∷ []) r))
    ∙ ap (λ (us : List Description). listed (us ++ r)) (sym (map-append described ts (t ∷ [])))

-- at most 32 answers, each described over zeros as it comes
pub all_described : (ts : List Turn) → length ts ≤ 32 → stored_all described_in (replicate 64 0) 0 ts ≡ listed (described_all ts)
unfolding described_all
all_described = stored_fills described_in 32 (λ ts. listed (described_all ts)) described_last
