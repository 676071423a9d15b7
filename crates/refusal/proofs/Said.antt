-- What is said where a refusal is handed on by `?`, and a ladder that a refusal ends.
use Prim.Native.Nat.{ℕ}
use mathlib.Core.Path.{◌≡◌, refl, sym, ap, ◌∙◌}
use mathlib.Core.Bool.{false, false≢true}
use lib.Dec.{eqb}
use borrow.Author.Tests.{eq-eqb}
use Rattle.std.specs.Prelude.{Result, Ok, Err, IsErr, IsErrAnd}
use Rattle.octets.specs.Refusal.{refused, refusal_in, say, ◌then◌}
use Rattle.octets.proofs.Ladder.{then_fail, say_refused}
use Rattle.refusal.specs.declared.Refusal.{Refusal}
use Rattle.refusal.specs.declared.Refusal.TheVariants.{PacketSize, SumPlace, Version, Spare, Flag, Instrument, Segmentation, Length, PacketType, Sum, RecordSize, QualityCounter, TimeMicros, Latitude, FrameIndex, Shot, FreeField, PacketOutput, Threshold, NoPosition, PositionPastEnd, PositionBelowNext, PositionHeld, PositionTooFar, NextHeld, StoreSize, NextAtEnd, OutputSize, SessionBroken, Budget, Class, RecordOutput, FrameDiffers, RecordField}
use Rattle.refusal.specs.Number.{number, said}

number_apart : (e : Refusal) → eqb (number e) 0 ≡ false
number_apart PacketSize = refl
number_apart SumPlace = refl
number_apart Version = refl
number_apart Spare = refl
number_apart Flag = refl
number_apart Instrument = refl
number_apart Segmentation = refl
number_apart Length = refl
number_apart PacketType = refl
number_apart Sum = refl
number_apart RecordSize = refl
number_apart QualityCounter = refl
number_apart TimeMicros = refl
number_apart Latitude = refl
number_apart FrameIndex = refl
number_apart Shot = refl
number_apart FreeField = refl
number_apart PacketOutput = refl
number_apart Threshold = refl
number_apart NoPosition = refl
number_apart PositionPastEnd = refl
number_apart PositionBelowNext = refl
number_apart PositionHeld = refl
number_apart PositionTooFar = refl
number_apart NextHeld = refl
number_apart StoreSize = refl
number_apart NextAtEnd = refl
number_apart OutputSize = refl
number_apart SessionBroken = refl
number_apart Budget = refl
number_apart Class = refl
number_apart RecordOutput = refl
number_apart FrameDiffers = refl
number_apart RecordField = refl

pub number_not_0 : (e : Refusal) → number e ≡ 0 → ⊥
number_not_0 e z = false≢true (sym (number_apart e) ∙ eq-eqb (number e) 0 z)

pub handed_on : {A : Type 0} (r : Result A Refusal) (e : Refusal) → IsErr r × IsErrAnd r (λ f. f ≡ e) → said r ≡ refused (number e)
handed_on (Ok a) e h = absurd h.1
handed_on (Err f) e h = ap (λ x. refused (number x)) h.1

-- a refusal that the first of two ladders gives is given by both together
pub then_handed_on : {A : Type 0} (r : Result A Refusal) (e : Refusal) (k next : ℕ) → IsErr r × IsErrAnd r (λ f. f ≡ e) → number e ≡ k → refusal_in (said r) ≡ (k then next)
then_handed_on r e k next h q =
    let p : refusal_in (said r) ≡ number e = ap refusal_in (handed_on r e h) in
    then_fail k next (refusal_in (said r)) (p ∙ q) (λ z. number_not_0 e (sym p ∙ z))

-- a refusal with a ladder's number is what that ladder says
pub say_handed_on : {A : Type 0} (r : Result A Refusal) (e : Refusal) (m : ℕ) (a : A) → IsErr r × IsErrAnd r (λ f. f ≡ e) → number e ≡ m → said r ≡ say m a
say_handed_on r e m a h q = handed_on r e h ∙ say_refused (number e) m a q (number_not_0 e)
