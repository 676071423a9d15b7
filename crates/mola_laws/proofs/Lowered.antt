-- A struct of numbers as it lies in memory, by what each value of it is lowered to. A contract may not name that (`TheLaws`), so that the layouts stand here once
-- more beside those that the contracts have.
use Rattle.std.specs.Prelude.{ℕ, suc, ◌≡◌, List, [], ◌∷◌, ◌++◌, map, length}
use Rattle.std.proofs.Math.Option.{none, some}
use mir.Val.{vstruct, of_list}
use prog.Memory.{size, align}
use Rattle.mola_laws.specs.Laid.{Kind, Field, fields_of}

-- the struct has so many bytes, is aligned so, and has these fields in this order, and no other
pub record Laid {S : Type 0} (k : Kind S) (bytes alignment : ℕ) (fields : List (Field S)) : Type 0 where
  pub sized : size k.type ≡ bytes
  pub aligned : align k.type ≡ alignment
  pub placed : fields_of (suc (length fields)) k.type ≡ map (λ f. some (f.type, f.byte)) fields ++ (none ∷ [])
  pub valued : (s : S) → k.value s ≡ vstruct (of_list (map (λ f. f.value s) fields))
