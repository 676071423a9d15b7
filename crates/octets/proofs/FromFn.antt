-- An array made by `array::from_fn`: where no call changes what the closure captures, it is the table of what the calls give.
use Prim.Native.Nat.{ℕ, zero, suc, ◌+◌, ◌<◌}
use mathlib.Core.Path.{◌≡◌, sym, ap, subst, ◌∙◌}
use mathlib.Core.List.{List}
use native.Mathlib.Omega.{arith}
use denote.Param.Members.{Mut}
use lib.ListN.{get_or}
use lib.Seq.{ext_get_or}
use Rattle.std.specs.Fn.{Called}
use Rattle.std.specs.Array.{IsFromFnResultFrom, IsFromFnResult}
use Rattle.octets.specs.Table.{table}
use Rattle.octets.proofs.Fill.{table_length, table_at}

module _ {F B : Type 0} (g : Mut F (ℕ × Unit {0}) B) (f : F) (r : ℕ → B) (calls : (k : ℕ) (y : B) (q : F) → Called g f (k, tt) y q → (q ≡ f) × (y ≡ r k)) (ys : List B) (d : B) where
  from_index : (n i k m : ℕ) → IsFromFnResultFrom g f ys i n → m ≡ i + k → k < n → get_or ys m d ≡ r m
  from_index zero i k m e q h = absurd (omega arith)
  from_index (suc n) i zero m e q h =
      let at : m ≡ i = omega arith in
      ap (λ (j : ℕ). get_or ys j d) at ∙ e.2.1 d ∙ (calls i e.1 e.0 e.3).1 ∙ ap r (sym at)
  from_index (suc n) i (suc k) m e q h =
      from_index n (i + 1) k m (subst (λ (p : F). IsFromFnResultFrom g p ys (i + 1) n) (calls i e.1 e.0 e.3).0 e.4) (omega arith) (omega arith)

  pub from_fn_table : (n : ℕ) → IsFromFnResult g f ys n → ys ≡ table n r
  from_fn_table n e =
      ext_get_or d ys (table n r) (e.long ∙ sym (table_length n r))
      (λ k h. let l : k < n = rw e.long at h in from_index n 0 k k e.each (omega arith) l ∙ sym (table_at n r k d l))
