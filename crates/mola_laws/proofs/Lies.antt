-- A struct lies as it is said to, by what the check makes of its declaration (`TheLaws`): the rest is computed.
use mathlib.Core.Path.{◌≡◌, ◌∙◌, ap}
use mathlib.Core.Option.{none, some}
use mathlib.Core.List.{List, [], ◌∷◌, ◌++◌, map}
use lib.ListN.{length}
use Prim.Native.Nat.{ℕ, suc}
use prog.Memory.{size, align}
use denote.Lowered.{Lowered}
use denote.Steps.{only}
use denote.Struct.Declared.{Declared, row}
use Rattle.mola_laws.specs.Laid.{Field, fields_of, type_of, value_of, Laid}

pub lies : {T : Declared} {bytes alignment : ℕ} {fields : List (Field T.D)} (L : Lowered (row T))
    → size (type_of T) ≡ bytes → align (type_of T) ≡ alignment
    → fields_of (suc (length fields)) (type_of T) ≡ map (λ f. some (f.type, f.byte)) fields ++ (none ∷ [])
    → ((s : T.D) → L.lowered s ≡ value_of fields s) → Laid T bytes alignment fields
lies L sized aligned placed valued =
    record { sized = sized; aligned = aligned; placed = placed; valued = λ s v is. ap only (L.val_is s (v ∷ []) is) ∙ valued s }
