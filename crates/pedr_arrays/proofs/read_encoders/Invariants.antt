-- One law of loops that fill a list, at the encoder bits of each shot.
use Prim.Native.Nat.{ℕ}
use mathlib.Core.List.{List}
use Rattle.layout.specs.Column.{item}
use Rattle.pedr_layout.specs.Layout.{encoder}
use Rattle.pedr_flags.specs.Encoder.{encoder_of}
use Rattle.pedr_flags.specs.declared.Encoder.{Encoder}
use Rattle.octets.proofs.Fill.{Filled}
use Rattle.pedr_arrays.proofs.read_encoders.Given as goal

abbrev pub encoder_at : List ℕ → ℕ → Encoder
encoder_at s k = encoder_of (item s encoder k)

abbrev pub invariant-loop-k : goal.invariant-loop-k
invariant-loop-k l = Filled (encoder_at l.bytes) l.initial.encoder-items l.encoder-items l.k
