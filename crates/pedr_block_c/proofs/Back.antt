-- Numbers and the block that they stand for.
use Prim.Native.Nat.{ℕ, ◌≤◌}
use mathlib.Core.Path.{◌≡◌, refl, sym, ap, ◌∙◌}
use mathlib.Core.Bool.{Bool, true, false, cond}
use native.Mathlib.Omega.{arith}
use borrow.Author.Tests.{ne_eqb, eqb-true, eqb-false}
use lib.Dec.{eqb}
use Rattle.pedr_layout.proofs.Frames.{at_rest}
use Rattle.pedr_block.specs.Block.{frame_number, carried_count}
use Rattle.pedr_block.specs.declared.Frame1Fields.{Frame1Fields}
use Rattle.pedr_block.specs.declared.Frame2Fields.{Frame2Fields}
use Rattle.pedr_block.specs.declared.Block.{Block}
use Rattle.pedr_block.specs.declared.Block.TheVariants.{Frame1, Frame2, Frame3, Frame4, Frame5, Frame6, Frame7}
use Rattle.pedr_block_c.specs.Numbers.{block_numbers, other_block, block_of_numbers}
use Rattle.pedr_block_c.specs.declared.BlockNumbers.{BlockNumbers}

-- the numbers of a block say its frame, and stand for it
pub numbers_kept : (b : Block) (index : ℕ) → ((block_numbers b).frame ≡ frame_number b) × (block_of_numbers (block_numbers b) index ≡ b)
unfolding block_numbers block_of_numbers
numbers_kept (Frame1 f) index = (refl, refl)
numbers_kept (Frame2 f) index = (refl, refl)
numbers_kept (Frame3 f) index = (refl, refl)
numbers_kept (Frame4 f) index = (refl, refl)
numbers_kept (Frame5 f) index = (refl, refl)
numbers_kept (Frame6 f) index = (refl, refl)
numbers_kept (Frame7 f) index = (refl, refl)

-- a block of no frame is of another one than the index, and has no carried bytes
other_frame : (f : Frame1Fields) (g : Frame2Fields) (index : ℕ)
    → (eqb (frame_number (other_block f g index)) index ≡ false) × (carried_count (other_block f g index) ≡ 0)
other_frame f g index = go (eqb index 1) refl
  where
    go : (t : Bool) → eqb index 1 ≡ t → (eqb (frame_number (cond t (Frame2 g) (Frame1 f))) index ≡ false) × (carried_count (cond t (Frame2 g) (Frame1 f)) ≡ 0)
    go true q = (ne_eqb 2 index (λ e. omega (arith, eqb-true index 1 q)), refl)
    go false q = (ne_eqb 1 index (λ e. eqb-false index 1 q (sym e)), refl)

pub unknown_frame : (n : BlockNumbers) (index : ℕ) → (1 ≤ n.frame → n.frame ≤ 7 → ⊥)
    → (eqb (frame_number (block_of_numbers n index)) index ≡ false) × (carried_count (block_of_numbers n index) ≡ 0)
unfolding block_of_numbers
unknown_frame n index h =
    let other : block_of_numbers n index ≡ other_block n.frame_1 n.frame_2 index =
    at_rest n.frame _ _ _ _ _ _ _ (λ q. h (omega (arith, q)) (omega (arith, q))) (λ q. h (omega (arith, q)) (omega (arith, q))) (λ q. h (omega (arith, q)) (omega (arith, q))) (λ q. h (omega (arith, q)) (omega (arith, q))) (λ q. h (omega (arith, q)) (omega (arith, q))) (λ q. h (omega (arith, q)) (omega (arith, q)))
    ∙ simp (ne_eqb n.frame 7 (λ q. h (omega (arith, q)) (omega (arith, q)))) in
    let o = other_frame n.frame_1 n.frame_2 index in
    (ap (λ (b : Block). eqb (frame_number b) index) other ∙ o.0, ap carried_count other ∙ o.1)
