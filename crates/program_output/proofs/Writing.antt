-- Laws of what a write makes of a text.
use Rattle.std.proofs.Common.{◌≡◌, ℕ, ◌+◌, ◌-◌, ◌<◌, List, [], ◌++◌, take, drop, length, Option, None, Some, Result, Ok, Err, Continue, true, ◌≤◌, refl, append_assoc, ap, sym, ◌∙◌, arith, length-drop}
use lib.Seq.{take_all}
use Rattle.std.proofs.lemmas.List.{append-nil}
use Rattle.std.proofs.lemmas.Bool.Decides.{nat_tests}
use Rattle.std.proofs.Math.Seq.{take-add}
use mathlib.Core.Bool.{false≢true}
use Rattle.std.specs.Io.KnownBytes.{Appends}
use Rattle.std.specs.declared.io.Error.{Error}
use Rattle.program_output.specs.declared.Unwritten.{Unwritten}
use Rattle.program_output.specs.Written.{bytes_taken, after_write, TextWritten, text_taken, is_whole}

-- known bytes that grow by none, and by one part after another
pub appends_none : (old : Option (List ℕ)) → Appends old old []
appends_none None = tt
appends_none (Some xs) = sym (append-nil xs)

pub appends_both : (old mid new : Option (List ℕ)) (bs cs : List ℕ) → Appends old mid bs → Appends mid new cs → Appends old new (bs ++ cs)
appends_both None mid new bs cs h k = tt
appends_both (Some xs) None new bs cs h k = absurd h
appends_both (Some xs) (Some ys) None bs cs h k = k
appends_both (Some xs) (Some ys) (Some zs) bs cs h k = k ∙ ap (λ (l : List ℕ). l ++ cs) h ∙ append_assoc xs bs cs

-- the rest of a text is what stands after its first m bytes
rest : (text : List ℕ) (m : ℕ) → take (length text - m) (drop m text) ≡ drop m text
rest text m = take_all (length text - m) (drop m text) (rw length-drop (omega arith))

pub appends_more : (old mid new : Option (List ℕ)) (text : List ℕ) (m n : ℕ) → Appends old mid (take m text)
    → Appends mid new (take n (take (length text - m) (drop m text))) → Appends old new (take (m + n) text)
appends_more old mid new text m n h k = rw take-add (appends_both old mid new _ _ h (rw (rest text m) at k))

-- a write that another follows took the bytes up to that one, and left some
pub goes_on : (wrote : Result ℕ Error) (taken size count : ℕ) → Continue count ≡ after_write taken wrote size → (count ≡ taken + bytes_taken wrote) × (count < size)
goes_on (Err e) taken size count h = cc
goes_on (Ok n) taken size count h = grind (arith, nat_tests)

-- how many bytes of a text its writes took: the first of them, never more than there are, and all of a text that was written whole
abbrev pub taken_size : Result Unit Unwritten → List ℕ → ℕ
taken_size (Ok whole) text = length text
taken_size (Err e) text = e.taken

pub taken_start : (r : Result Unit Unwritten) (text : List ℕ) → text_taken r text ≡ take (taken_size r text) text
taken_start (Ok whole) text = sym (take_all (length text) text (omega arith))
taken_start (Err e) text = refl

pub taken_within : (r : Result Unit Unwritten) (text : List ℕ) → TextWritten r (length text) → taken_size r text ≤ length text
taken_within (Ok whole) text h = omega arith
taken_within (Err e) text h = omega arith

pub taken_whole : (r : Result Unit Unwritten) (text : List ℕ) → is_whole r ≡ true → text_taken r text ≡ text
taken_whole (Ok whole) text e = refl
taken_whole (Err e) text h = absurd (false≢true h)

pub taken_all : (r : Result Unit Unwritten) (text : List ℕ) → is_whole r ≡ true → taken_size r text ≡ length text
taken_all (Ok whole) text e = refl
taken_all (Err e) text h = absurd (false≢true h)
