-- Laws of what a read makes of a chunk.
use Rattle.std.proofs.Common.{◌≡◌, ℕ, ◌+◌, ◌<◌, ◌≤◌, List, [], ◌++◌, take, length, Option, None, Some, Result, Ok, Err, Continue, append_assoc, refl, ap, sym, ◌∙◌, arith}
use Rattle.std.proofs.lemmas.Bool.Decides.{nat_tests}
use Rattle.std.proofs.lemmas.List.{take-append-le}
use Rattle.std.proofs.Math.Seq.{take-append-add}
use Rattle.std.specs.Io.KnownBytes.{Keeps, Consumes, ReadConsumes}
use Rattle.program_input.specs.declared.Chunk.{Chunk}
use Rattle.program_input.specs.declared.Chunk.TheVariants.{Full, Last}
use Rattle.program_input.specs.Chunk.{after_read, ChunkWithin, chunk_bytes}

-- known bytes of which none are taken, and of which one part is after another
pub consumes_none : (old : Option (List ℕ)) → Consumes old old []
consumes_none None = tt
consumes_none (Some xs) = refl

keeps_consumes : (old new : Option (List ℕ)) → Keeps old new → Consumes old new []
keeps_consumes None new h = tt
keeps_consumes (Some xs) None h = h
keeps_consumes (Some xs) (Some ys) h = sym h

pub consumes_both : (old mid new : Option (List ℕ)) (bs cs : List ℕ) → Consumes old mid bs → Consumes mid new cs → Consumes old new (bs ++ cs)
consumes_both None mid new bs cs h k = tt
consumes_both (Some xs) None new bs cs h k = absurd h
consumes_both (Some xs) (Some ys) None bs cs h k = k
consumes_both (Some xs) (Some ys) (Some zs) bs cs h k = h ∙ ap (λ (l : List ℕ). bs ++ l) k ∙ sym (append_assoc bs cs zs)

-- the bytes of a chunk fit the buffer
pub count_fits : {E : Type 0} (chunk : Result Chunk E) (room : ℕ) → ChunkWithin room chunk → chunk_bytes chunk ≤ room
count_fits (Err e) room h = omega arith
count_fits (Ok (Full n)) room h = omega arith
count_fits (Ok (Last n)) room h = omega arith

-- what a read that another follows did: it took the bytes up to that one, and left room
pub record GoesOn (count room next : ℕ) (mid new : Option (List ℕ)) (rest : List ℕ) : Type 0 where
  pub more : ℕ
  pub next_is : next ≡ count + more
  pub room_left : next < room
  pub bytes : Consumes mid new (take more rest)

pub goes_on : {E : Type 0} (got : Result ℕ E) (count room next : ℕ) (mid new : Option (List ℕ)) (rest : List ℕ) → Continue next ≡ after_read count got room
    → ReadConsumes mid new got rest → GoesOn count room next mid new rest
goes_on (Err e) count room next mid new rest h k = cc
goes_on (Ok n) count room next mid new rest h k = record { more = n; next_is = grind (arith, nat_tests); room_left = grind (arith, nat_tests); bytes = k.0 }

-- one read more, into the part of the buffer after the bytes so far
pub read_more : (old mid new : Option (List ℕ)) (head rest tail : List ℕ) (count n : ℕ) → count ≡ length head → n ≤ length rest → Consumes old mid head
    → Consumes mid new (take n rest) → Consumes old new (take (count + n) (head ++ (rest ++ tail)))
read_more old mid new head rest tail count n e f h k =
    rw (e, take-append-add, take-append-le n rest tail f) (consumes_both old mid new head (take n rest) h k)
