-- Request 2: the block by its frame index.
use Rattle.std.specs.Prelude.{ℕ, List}
use Rattle.layout.specs.Column.{value}
use Rattle.pedr_layout.specs.Layout.{frame_index}
use Rattle.pedr_layout.specs.Block as columns
use Rattle.pedr_block.specs.Frames.{frame1_of, frame2_of, frame3_of, frame4_of, frame5_of, frame6_of, frame7_of}
use Rattle.pedr_block.specs.declared.Block.{Block}
use Rattle.pedr_block.specs.declared.Block.TheVariants.{Frame1, Frame2, Frame3, Frame4, Frame5, Frame6, Frame7}

unfoldable pub block_of : List ℕ → Block
block_of s =
    columns.by_frame (value s frame_index) (Frame1 (frame1_of s)) (Frame2 (frame2_of s)) (Frame3 (frame3_of s)) (Frame4 (frame4_of s)) (Frame5 (frame5_of s))
    (Frame6 (frame6_of s)) (Frame7 (frame7_of s))

-- the frame of a block, and its layout
abbrev pub frame_number : Block → ℕ
frame_number (Frame1 f) = 1
frame_number (Frame2 f) = 2
frame_number (Frame3 f) = 3
frame_number (Frame4 f) = 4
frame_number (Frame5 f) = 5
frame_number (Frame6 f) = 6
frame_number (Frame7 f) = 7

abbrev pub layout_of : Block → List columns.BlockColumn
layout_of (Frame1 f) = columns.frame1
layout_of (Frame2 f) = columns.frame2
layout_of (Frame3 f) = columns.frame3
layout_of (Frame4 f) = columns.frame4
layout_of (Frame5 f) = columns.frame5
layout_of (Frame6 f) = columns.frame6
layout_of (Frame7 f) = columns.frame7

-- the bytes that its layout leaves unnamed
abbrev pub carried_count : Block → ℕ
carried_count b = columns.carried_size (layout_of b)
