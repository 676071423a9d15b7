-- What the writer accepts.
use Prim.Native.Nat.{ℕ}
use mathlib.Core.Path.{◌≡◌, refl}
use mathlib.Core.List.{List}
use lib.Dec.{eqb}
use lib.ListN.{length}
use borrow.Author.Tests.{eqb-true}
use Rattle.octets.specs.Refusal.{refuse◌unless◌else◌}
use Rattle.octets.proofs.Ladder.{passed, pass_eq, then_zero, then_pass}
use Rattle.pedr_arrays.specs.declared.RecordArrays.{RecordArrays}
use Rattle.pedr_fields.specs.declared.RecordFields.{RecordFields}
use Rattle.pedr_block.specs.Block.{frame_number, carried_count}
use Rattle.pedr_block.specs.declared.Block.{Block}
use Rattle.pedr_write_check.proofs.Accept.{Proper, given_proper, proper_given}
use Rattle.pedr_write_refusal.specs.Refusal.{write_refusal}

-- the conditions that what is given meets where it is written, whatever the output
pub record Writable (f : RecordFields) (b : Block) (a : RecordArrays) (c x : List ℕ) : Type 0 where
  pub given : Proper f a
  pub carried : length c ≡ carried_count b
  pub bytes : length x ≡ 220
  pub frame : frame_number b ≡ f.receiver.frame_index

module _ (f : RecordFields) (b : Block) (a : RecordArrays) (carried x out : List ℕ) where
  -- what is written was given so, and had room
  pub writable : write_refusal f b a carried x out ≡ 0 → Writable f b a carried x × (length out ≡ 776)
  unfolding write_refusal
  writable e =
      let c0 = then_zero _ _ e in
      let c1 = passed _ 48 _ c0.1 in
      let c2 = passed _ 48 _ c1.1 in
      let c3 = passed _ 40 _ c2.1 in
      let c4 = passed _ 41 _ c3.1 in (
        record {
          given = given_proper f a c0.0;
          carried = eqb-true _ _ c1.0;
          bytes = eqb-true _ _ c2.0;
          frame = eqb-true _ _ c4.0;
        },
        eqb-true _ _ c3.0,
      )

  -- and of what is given so only the output can be refused
  pub room_decides : Writable f b a carried x → (refuse 41 unless eqb (length out) 776 else 0) ≡ write_refusal f b a carried x out
  unfolding write_refusal
  room_decides w =
      then_pass _ _ _ (proper_given f a w.given)
      (pass_eq _ _ 49 _ _ w.carried
      (pass_eq _ _ 49 _ _ w.bytes
      (λ i. refuse 41 unless eqb (length out) 776 else pass_eq _ _ 42 0 0 w.frame refl i)))
