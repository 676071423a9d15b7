-- Frame by frame: the zeros of the other frames, the frame's own fields, and the case that the frame index selects.
use mathlib.Core.Path.{sym, ap, ◌∙◌}
use native.Mathlib.Omega.{arith}
use Rattle.layout.specs.Column.{value}
use Rattle.pedr_layout.specs.Layout.{frame_index}
use Rattle.pedr_layout.proofs.Frames.{at_1, at_2, at_3, at_4, at_5, at_6, at_rest}
use Rattle.pedr_block.specs.Block.{block_of}
use Rattle.pedr_block_c.specs.Numbers.{block_numbers, no_block}
use Rattle.pedr_block_c.proofs.read_block.Goals as goal

pub returns-in-1 : goal.returns-in-1
unfolding block_of block_numbers no_block
returns-in-1 c = rw (c.no_block-none.ensures, c.read_frame_1.ensures) (ap block_numbers (sym (at_1 _ _ _ _ _ _ _ _ (sym c.u16_at-frame.ensures ∙ c.in-1.is))))

pub returns-in-2 : goal.returns-in-2
unfolding block_of block_numbers no_block
returns-in-2 c = rw (c.no_block-none.ensures, c.read_frame_2.ensures) (ap block_numbers (sym (at_2 _ _ _ _ _ _ _ _ (sym c.u16_at-frame.ensures ∙ c.in-2.is))))

pub returns-in-3 : goal.returns-in-3
unfolding block_of block_numbers no_block
returns-in-3 c = rw (c.no_block-none.ensures, c.read_frame_3.ensures) (ap block_numbers (sym (at_3 _ _ _ _ _ _ _ _ (sym c.u16_at-frame.ensures ∙ c.in-3.is))))

pub returns-in-4 : goal.returns-in-4
unfolding block_of block_numbers no_block
returns-in-4 c = rw (c.no_block-none.ensures) (ap block_numbers (sym (at_4 _ _ _ _ _ _ _ _ (sym c.u16_at-frame.ensures ∙ c.in-4.is))))

pub returns-in-5 : goal.returns-in-5
unfolding block_of block_numbers no_block
returns-in-5 c = rw (c.no_block-none.ensures, c.read_frame_5.ensures) (ap block_numbers (sym (at_5 _ _ _ _ _ _ _ _ (sym c.u16_at-frame.ensures ∙ c.in-5.is))))

pub returns-in-6 : goal.returns-in-6
unfolding block_of block_numbers no_block
returns-in-6 c = rw (c.no_block-none.ensures, c.read_frame_6.ensures) (ap block_numbers (sym (at_6 _ _ _ _ _ _ _ _ (sym c.u16_at-frame.ensures ∙ c.in-6.is))))

pub returns-in_default : goal.returns-in_default
unfolding block_of block_numbers no_block
returns-in_default c =
    rw (c.no_block-none.ensures, c.read_frame_7.ensures)
    (ap block_numbers (sym (at_rest (value c.args.bytes.now frame_index) _ _ _ _ _ _ _ (omega arith) (omega arith) (omega arith) (omega arith) (omega arith) (omega arith))))
