-- A class's number, and the class of that number.
use Prim.Native.Nat.{ℕ}
use mathlib.Core.Path.{◌≡◌, refl, sym, ap, ◌∙◌}
use mathlib.Core.List.{List, [], ◌∷◌, map}
use Rattle.octets.specs.Table.{nats_at}
use Rattle.octets.proofs.Fill.{table_same, map_table}
use Rattle.layout.specs.Column.{item, values}
use Rattle.pedr_layout.specs.Layout.{class}
use Rattle.pedr_flags_writer.proofs.Codes.{class_whole}
use Rattle.pedr_flags.specs.Class.{class_of, class_number}
use Rattle.pedr_arrays.specs.Arrays.{classes_of}

-- numbers, their classes, and the numbers of these
pub numbers_kept : (ns : List ℕ) → map class_number (map class_of ns) ≡ ns
numbers_kept [] = refl
numbers_kept (n ∷ ns) = let k = numbers_kept ns in λ i. class_whole n i ∷ k i

-- the column of the classes is their numbers
pub column_numbers : (s : List ℕ) → values s class ≡ map class_number (classes_of s)
unfolding classes_of nats_at
column_numbers s =
    sym (map_table class_number 20 (λ k. class_of (item s class k)) ∙ table_same 20 _ _ (λ k. class_whole (item s class k)))

-- classes of a column, their numbers, and the classes of these
pub classes_kept : (s : List ℕ) → map class_of (map class_number (classes_of s)) ≡ classes_of s
unfolding classes_of nats_at
classes_kept s = ap (map class_of) (sym (column_numbers s)) ∙ map_table class_of 20 (λ k. item s class k)
