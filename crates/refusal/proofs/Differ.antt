-- Each refusal stands at its number in one list, so that no other has that number.
use Rattle.std.proofs.Common.{◌≡◌, ℕ, List, [], ◌∷◌, get_or, refl, sym, ap, ◌∙◌}
use Rattle.refusal.specs.declared.Refusal.{Refusal}
use Rattle.refusal.specs.declared.Refusal.TheVariants.{PacketSize, SumPlace, Version, Spare, Flag, Instrument, Segmentation, Length, PacketType, Sum, RecordSize, QualityCounter, TimeMicros, Latitude, FrameIndex, Shot, FreeField, PacketOutput, Threshold, NoPosition, PositionPastEnd, PositionBelowNext, PositionHeld, PositionTooFar, NextHeld, StoreSize, NextAtEnd, OutputSize, SessionBroken, Budget, Class, RecordOutput, FrameDiffers, RecordField}
use Rattle.refusal.specs.Number.{number, NumbersDiffer}
use Rattle.refusal.proofs.Said.{number_not_0}

-- where no refusal has the number, the first
by_number : List Refusal
by_number =
    PacketSize ∷ PacketSize ∷ SumPlace ∷ Version ∷ Spare ∷ Flag ∷ Instrument ∷ Segmentation ∷ Length ∷ PacketType ∷ Sum ∷ RecordSize ∷ QualityCounter
    ∷ TimeMicros ∷ Latitude ∷ FrameIndex ∷ Shot ∷ FreeField ∷ PacketOutput ∷ PacketSize ∷ Threshold ∷ NoPosition ∷ PositionPastEnd ∷ PositionBelowNext
    ∷ PositionHeld ∷ PositionTooFar ∷ NextHeld ∷ StoreSize ∷ NextAtEnd ∷ OutputSize ∷ SessionBroken ∷ Budget ∷ PacketSize ∷ PacketSize ∷ PacketSize
    ∷ PacketSize ∷ PacketSize ∷ PacketSize ∷ PacketSize ∷ PacketSize ∷ Class ∷ RecordOutput ∷ FrameDiffers ∷ PacketSize ∷ PacketSize ∷ PacketSize
    ∷ PacketSize ∷ PacketSize ∷ PacketSize ∷ RecordField ∷ []

numbered : (e : Refusal) → get_or by_number (number e) PacketSize ≡ e
unfolding by_number
numbered PacketSize = refl
numbered SumPlace = refl
numbered Version = refl
numbered Spare = refl
numbered Flag = refl
numbered Instrument = refl
numbered Segmentation = refl
numbered Length = refl
numbered PacketType = refl
numbered Sum = refl
numbered RecordSize = refl
numbered QualityCounter = refl
numbered TimeMicros = refl
numbered Latitude = refl
numbered FrameIndex = refl
numbered Shot = refl
numbered FreeField = refl
numbered PacketOutput = refl
numbered Threshold = refl
numbered NoPosition = refl
numbered PositionPastEnd = refl
numbered PositionBelowNext = refl
numbered PositionHeld = refl
numbered PositionTooFar = refl
numbered NextHeld = refl
numbered StoreSize = refl
numbered NextAtEnd = refl
numbered OutputSize = refl
numbered SessionBroken = refl
numbered Budget = refl
numbered Class = refl
numbered RecordOutput = refl
numbered FrameDiffers = refl
numbered RecordField = refl

pub numbers_differ : NumbersDiffer
numbers_differ = record {
  own = λ a b e. sym (numbered a) ∙ ap (λ (n : ℕ). get_or by_number n PacketSize) e ∙ numbered b;
  not_0 = number_not_0;
}
