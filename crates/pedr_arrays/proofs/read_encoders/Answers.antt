-- One law of loops that fill a list, at the encoder bits of each shot.
use Prim.Native.Nat.{ℕ, ◌+◌}
use mathlib.Core.Path.{refl, sym, ap, ◌∙◌}
use native.Mathlib.Omega.{arith}
use native.Mathlib.Nat.{one-mul}
use lib.ListN.{get_or}
use Rattle.pedr_flags.specs.Encoder.{encoder_of}
use Rattle.pedr_arrays.specs.Arrays.{encoders_of}
use Rattle.octets.proofs.Fill.{fill_more, fill_done}
use Rattle.pedr_arrays.proofs.read_encoders.Invariants.{encoder_at}
use Rattle.pedr_arrays.proofs.read_encoders.Goals as goal

pub loop-k-init : goal.loop-k-init
loop-k-init c = (omega arith, refl)

pub loop-k-preserved : goal.loop-k-preserved
loop-k-preserved c =
    let l = c.loop-k in
    let s = c.args.bytes.now in
    fill_more (encoder_at s) _ l.encoder-items l.k _ c.loop-k-test.true (c.from.ensures ∙ ap (λ (b : ℕ). encoder_of b) (c.u8_at.ensures ∙ ap (λ (j : ℕ). get_or s (620 + j) 0) (sym (one-mul l.k)))) l.invariant

pub returns : goal.returns
unfolding encoders_of
returns c =
    let l = c.loop-k in
    fill_done (encoder_at c.args.bytes.now) _ l.encoder-items l.k c.loop-k-test.false l.invariant
