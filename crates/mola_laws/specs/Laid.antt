-- A struct of numbers as it lies in memory.
use Rattle.std.specs.Prelude.{ℕ, suc, ◌≡◌, Bool, List, [], ◌∷◌, ◌++◌, map, ℤ, length}
use Rattle.std.proofs.Math.Option.{Option, none, some}
use mir.Syntax.{Ty, ty_int, ty_bool, ty_array, w8, w16, w32}
use mir.Val.{Val, vint, vbool, vstruct, of_list, of_z}
use prog.Memory.{size, align, field_of}
use denote.Laws.{Is}
use denote.Struct.Declared.{Declared, shape, row}
use denote.Struct.Struct.{layout}
use Rattle.octets.specs.Table.{table}

-- how the values of A lie in memory: their type there, and each one's value of that type
pub record Kind (A : Type 0) : Type 0 where
  pub type : Ty
  pub value : A → Val

abbrev pub u8 : Kind ℕ
u8 = record { type = ty_int w8; value = λ x. vint w8 x }

abbrev pub u16 : Kind ℕ
u16 = record { type = ty_int w16; value = λ x. vint w16 x }

abbrev pub u32 : Kind ℕ
u32 = record { type = ty_int w32; value = λ x. vint w32 x }

-- signed numbers in two's complement
abbrev pub i16 : Kind ℤ
i16 = record { type = ty_int w16; value = λ z. vint w16 (of_z w16 z) }

abbrev pub i32 : Kind ℤ
i32 = record { type = ty_int w32; value = λ z. vint w32 (of_z w32 z) }

-- one byte, 0 or 1
abbrev pub bool : Kind Bool
bool = record { type = ty_bool; value = λ b. vbool b }

-- n in a row
infix 71 ◌times◌
abbrev pub ◌times◌ : {A : Type 0} → ℕ → Kind A → Kind (List A)
n times k = record { type = ty_array k.type n; value = λ xs. vstruct (of_list (map (λ x. k.value x) xs)) }

-- a field of the struct S: its type, the byte from 0 where it begins, and its value
pub record Field (S : Type 0) : Type 0 where
  pub type : Ty
  pub byte : ℕ
  pub value : S → Val

infix 70 ◌at◌is◌
abbrev pub ◌at◌is◌ : {S A : Type 0} → Kind A → ℕ → (S → A) → Field S
k at b is f = record { type = k.type; byte = b; value = λ s. k.value (f s) }

abbrev pub value_of : {S : Type 0} → List (Field S) → S → Val
value_of fields s = vstruct (of_list (map (λ f. f.value s) fields))

-- the type of a declared struct in memory, and the struct as a field: its value is those of its fields
abbrev pub type_of : Declared → Ty
type_of T = layout (shape T)

abbrev pub held : (T : Declared) → List (Field T.D) → Kind T.D
held T fields = record { type = type_of T; value = value_of fields }

-- the first n fields of a type: the type of each, and the byte where it begins
abbrev pub fields_of : ℕ → Ty → List (Option (Ty × ℕ))
fields_of n τ = table n (field_of τ)

-- the struct has so many bytes, is aligned so, and has these fields in this order, and no other: v is what lies in memory where the struct is s
pub record Laid (T : Declared) (bytes alignment : ℕ) (fields : List (Field T.D)) : Type 0 where
  pub sized : size (type_of T) ≡ bytes
  pub aligned : align (type_of T) ≡ alignment
  pub placed : fields_of (suc (length fields)) (type_of T) ≡ map (λ f. some (f.type, f.byte)) fields ++ (none ∷ [])
  pub valued : (s : T.D) (v : Val) → Is (row T) s (v ∷ []) → v ≡ value_of fields s
