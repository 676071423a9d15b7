-- One law of loops that fill a list, at the tests of each shot.
use Prim.Native.Nat.{ℕ, suc}
use mathlib.Core.List.{List}
use Rattle.octets.proofs.Fill.{Filled}
use Rattle.pedr_flags.specs.Descriptor.{failures_of}
use Rattle.pedr_flags.specs.declared.ShotFailures.{ShotFailures}
use Rattle.pedr_flags.proofs.read_all_failures.Given as goal

abbrev pub failures_at : List ℕ → ℕ → ShotFailures
failures_at s k = failures_of s (suc k)

abbrev pub invariant-loop-k : goal.invariant-loop-k
invariant-loop-k l = Filled (failures_at l.bytes) l.initial.shot-items l.shot-items l.k
