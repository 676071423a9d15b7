-- What the answers of writes mean, and what they make of a text.
use Rattle.std.specs.Prelude.{ℕ, ◌+◌, ◌<◌, ◌≤◌, min, Bool, true, false, cond, eqb, ltb, List, ◌++◌, take, Option, Some, None, Result, Ok, Err, IfOk}
use Rattle.std.specs.declared.ops.ControlFlow.{ControlFlow}
use Rattle.std.specs.declared.ops.ControlFlow.TheVariants.{Continue, Break}
use Rattle.std.specs.declared.io.Error.{Error}
use Rattle.std.specs.Io.KnownBytes.{Appends}
use Rattle.program_output.specs.declared.Unwritten.{Unwritten}

-- A write's answer, with `size` bytes to take: an error is a failure, and so it is where it took none; any other is a number of bytes, never over the size.
abbrev pub write_meaning : {E : Type 0} → Result ℕ E → ℕ → Option ℕ
write_meaning (Err e) size = None
write_meaning (Ok k) size = cond (eqb (min k size) 0) None (Some (min k size))

-- it took at least one byte, and no more than there were
abbrev pub WroteWithin : {E : Type 0} → ℕ → Result ℕ E → Type 0
WroteWithin size wrote = IfOk wrote (λ n. (0 < n) × (n ≤ size))

-- the bytes that a write took
abbrev pub bytes_taken : {E : Type 0} → Result ℕ E → ℕ
bytes_taken (Err e) = 0
bytes_taken (Ok n) = n

-- What follows a write after `taken` bytes, of a text of `size` bytes: none after a failed one, which leaves the bytes before it and the failure; none where the
-- bytes that were taken reach the size, for the text is whole; and else another.
abbrev pub after_write : ℕ → Result ℕ Error → ℕ → ControlFlow (Result Unit Unwritten) ℕ
after_write taken (Err e) size = Break (Err (record { taken = taken; error = e }))
after_write taken (Ok n) size = cond (ltb (taken + n) size) (Continue (taken + n)) (Break (Ok tt))

-- A text of `size` bytes was taken whole, or a write failed after fewer bytes.
abbrev pub TextWritten : Result Unit Unwritten → ℕ → Type 0
TextWritten (Ok whole) size = Unit
TextWritten (Err e) size = e.taken < size

-- the bytes of a text that its writes took
abbrev pub text_taken : Result Unit Unwritten → List ℕ → List ℕ
text_taken (Ok whole) text = text
text_taken (Err e) text = take e.taken text

-- What printing a text to standard error did to the known bytes: all of it came behind them and nothing else, or, where a write failed, the bytes that were taken,
-- with some that tell the failure behind these.
abbrev pub AppendsText : Option (List ℕ) → Option (List ℕ) → Result Unit Unwritten → List ℕ → Type 0
AppendsText old new (Ok whole) text = Appends old new text
AppendsText old new (Err e) text = (told : List ℕ) × Appends old new (take e.taken text ++ told)

-- known bytes stay, and some come behind them
abbrev pub Grows : Option (List ℕ) → Option (List ℕ) → Type 0
Grows old new = (more : List ℕ) × Appends old new more

-- all of a text was taken
abbrev pub is_whole : Result Unit Unwritten → Bool
is_whole (Ok whole) = true
is_whole (Err e) = false
