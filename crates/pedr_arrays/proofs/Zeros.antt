-- A list of so many elements, each of which is one value.
use Prim.Native.Nat.{ℕ, ◌<◌}
use mathlib.Core.Path.{◌≡◌, sym, subst, ◌∙◌}
use mathlib.Core.List.{List}
use lib.ListN.{replicate}
use Rattle.std.specs.Array.{AllOfLen}
use Rattle.std.proofs.lemmas.List.{ext_get_or, length-replicate, get_or-replicate}

pub all_one : {A : Type 0} (P : A → Type 0) (v : A) (xs : List A) (n : ℕ) → ((x : A) → P x → x ≡ v) → AllOfLen P xs n → xs ≡ replicate n v
all_one P v xs n one a =
    ext_get_or v xs (replicate n v) (a.long ∙ sym (length-replicate n v))
    (λ i h. let l : i < n = subst (λ m. i < m) a.long h in one _ (a.at i v l) ∙ sym (get_or-replicate n i v v l))
