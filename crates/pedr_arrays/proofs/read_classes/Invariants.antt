-- One law of loops that fill a list, at the class of each shot.
use Prim.Native.Nat.{ℕ}
use mathlib.Core.List.{List}
use Rattle.layout.specs.Column.{item}
use Rattle.pedr_layout.specs.Layout.{class}
use Rattle.pedr_flags.specs.Class.{class_of}
use Rattle.pedr_flags.specs.declared.Class.{Class}
use Rattle.octets.proofs.Fill.{Filled}
use Rattle.pedr_arrays.proofs.read_classes.Given as goal

abbrev pub class_at : List ℕ → ℕ → Class
class_at s k = class_of (item s class k)

abbrev pub invariant-loop-k : goal.invariant-loop-k
invariant-loop-k l = Filled (class_at l.bytes) l.initial.class-items l.class-items l.k
