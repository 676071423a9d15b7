-- Document 01, "Refusal numbers": the number of each refusal, and what an entry that answers by a Result says. 40 to 49 are those of the record's writer.
use Rattle.std.specs.Prelude.{ℕ, ◌≡◌, Result, Ok, Err}
use Rattle.octets.specs.Refusal.{Said, refused, answered}
use Rattle.refusal.specs.declared.Refusal.{Refusal}
use Rattle.refusal.specs.declared.Refusal.TheVariants.{PacketSize, SumPlace, Version, Spare, Flag, Instrument, Segmentation, Length, PacketType, Sum, RecordSize, QualityCounter, TimeMicros, Latitude, FrameIndex, Shot, FreeField, PacketOutput, Threshold, NoPosition, PositionPastEnd, PositionBelowNext, PositionHeld, PositionTooFar, NextHeld, StoreSize, NextAtEnd, OutputSize, SessionBroken, Budget, Class, RecordOutput, FrameDiffers, RecordField}

abbrev pub number : Refusal → ℕ
number PacketSize = 1
number SumPlace = 2
number Version = 3
number Spare = 4
number Flag = 5
number Instrument = 6
number Segmentation = 7
number Length = 8
number PacketType = 9
number Sum = 10
number RecordSize = 11
number QualityCounter = 12
number TimeMicros = 13
number Latitude = 14
number FrameIndex = 15
number Shot = 16
number FreeField = 17
number PacketOutput = 18
number Threshold = 20
number NoPosition = 21
number PositionPastEnd = 22
number PositionBelowNext = 23
number PositionHeld = 24
number PositionTooFar = 25
number NextHeld = 26
number StoreSize = 27
number NextAtEnd = 28
number OutputSize = 29
number SessionBroken = 30
number Budget = 31
number Class = 40
number RecordOutput = 41
number FrameDiffers = 42
number RecordField = 49

-- each refusal has a number of its own, and none has 0, which says that nothing is refused
pub record NumbersDiffer : Type 0 where
  pub own : (a b : Refusal) → number a ≡ number b → a ≡ b
  pub not_0 : (a : Refusal) → number a ≡ 0 → ⊥

-- what is said by the Result that an entry answers: a refusal by its number
abbrev pub said : {A : Type 0} → Result A Refusal → Said A
said (Ok a) = answered a
said (Err refusal) = refused (number refusal)
