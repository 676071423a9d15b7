-- The reader's case is that of the frame index; no layout leaves more than 10 bytes.
use Prim.Native.Nat.{ℕ, ◌≤◌}
use mathlib.Core.Path.{◌≡◌, sym, ap, ◌∙◌, refl}
use mathlib.Core.List.{List}
use Rattle.layout.specs.Column.{value}
use Rattle.pedr_layout.specs.Layout.{frame_index}
use Rattle.pedr_layout.proofs.Frames.{at_1, at_2, at_3, at_4, at_5, at_6, at_7, each_frame}
use native.Mathlib.Omega.{arith}
use Rattle.pedr_block.specs.Block.{block_of, frame_number, carried_count}
use Rattle.pedr_block.specs.declared.Block.{Block}
use Rattle.pedr_block.specs.declared.Block.TheVariants.{Frame1, Frame2, Frame3, Frame4, Frame5, Frame6, Frame7}

pub case_is_index : (s : List ℕ) → 1 ≤ value s frame_index → value s frame_index ≤ 7 → frame_number (block_of s) ≡ value s frame_index
unfolding block_of
case_is_index s l h =
    each_frame (λ n. value s frame_index ≡ n → frame_number (block_of s) ≡ value s frame_index) (value s frame_index) l h
    (λ q. ap frame_number (at_1 _ _ _ _ _ _ _ _ q) ∙ sym q)
    (λ q. ap frame_number (at_2 _ _ _ _ _ _ _ _ q) ∙ sym q)
    (λ q. ap frame_number (at_3 _ _ _ _ _ _ _ _ q) ∙ sym q)
    (λ q. ap frame_number (at_4 _ _ _ _ _ _ _ _ q) ∙ sym q)
    (λ q. ap frame_number (at_5 _ _ _ _ _ _ _ _ q) ∙ sym q)
    (λ q. ap frame_number (at_6 _ _ _ _ _ _ _ _ q) ∙ sym q)
    (λ q. ap frame_number (at_7 _ _ _ _ _ _ _ _ q) ∙ sym q)
    refl

pub carried_le : (b : Block) → carried_count b ≤ 10
carried_le (Frame1 f) = omega arith
carried_le (Frame2 f) = omega arith
carried_le (Frame3 f) = omega arith
carried_le (Frame4 f) = omega arith
carried_le (Frame5 f) = omega arith
carried_le (Frame6 f) = omega arith
carried_le (Frame7 f) = omega arith
