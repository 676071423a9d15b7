-- What is read of a block by its frame index.
use Prim.Native.Nat.{ℕ}
use mathlib.Core.Path.{◌≡◌, ap}
use mathlib.Core.List.{List}
use Rattle.layout.specs.Column.{value}
use Rattle.pedr_layout.specs.Layout.{frame_index}
use Rattle.pedr_layout.specs.Block as columns
use Rattle.pedr_layout.proofs.Frames.{at_1, at_2, at_3, at_4, at_5, at_6, at_7}
use Rattle.pedr_block.specs.Frames.{frame1_of, frame2_of, frame3_of, frame4_of, frame5_of, frame6_of, frame7_of}
use Rattle.pedr_block.specs.Block.{block_of}
use Rattle.pedr_block.specs.declared.Block.{Block}
use Rattle.pedr_block.specs.declared.Block.TheVariants.{Frame1, Frame2, Frame3, Frame4, Frame5, Frame6, Frame7}
use Rattle.pedr_block_runs.specs.Runs.{no_runs, runs_in3, runs_in4, runs_in5, runs_in6, runs_of}
use Rattle.pedr_block_runs.specs.Carried.{carried_by, carried_of}
use Rattle.pedr_block_runs.specs.declared.BlockRuns.{BlockRuns}

pub record ReadAs (s : List ℕ) (b : Block) (r : BlockRuns) (c : List ℕ) : Type 0 where
  pub block : block_of s ≡ b
  pub runs : runs_of s ≡ r
  pub carried : carried_of s ≡ c

module _ (s : List ℕ) where
  pub read_1 : value s frame_index ≡ 1 → ReadAs s (Frame1 (frame1_of s)) no_runs (carried_by s columns.frame1)
  unfolding block_of runs_of carried_of
  read_1 q = record { block = at_1 _ _ _ _ _ _ _ _ q; runs = at_1 _ _ _ _ _ _ _ _ q; carried = ap (carried_by s) (at_1 _ _ _ _ _ _ _ _ q) }

  pub read_2 : value s frame_index ≡ 2 → ReadAs s (Frame2 (frame2_of s)) no_runs (carried_by s columns.frame2)
  unfolding block_of runs_of carried_of
  read_2 q = record { block = at_2 _ _ _ _ _ _ _ _ q; runs = at_2 _ _ _ _ _ _ _ _ q; carried = ap (carried_by s) (at_2 _ _ _ _ _ _ _ _ q) }

  pub read_3 : value s frame_index ≡ 3 → ReadAs s (Frame3 (frame3_of s)) (runs_in3 s) (carried_by s columns.frame3)
  unfolding block_of runs_of carried_of
  read_3 q = record { block = at_3 _ _ _ _ _ _ _ _ q; runs = at_3 _ _ _ _ _ _ _ _ q; carried = ap (carried_by s) (at_3 _ _ _ _ _ _ _ _ q) }

  pub read_4 : value s frame_index ≡ 4 → ReadAs s (Frame4 (frame4_of s)) (runs_in4 s) (carried_by s columns.frame4)
  unfolding block_of runs_of carried_of
  read_4 q = record { block = at_4 _ _ _ _ _ _ _ _ q; runs = at_4 _ _ _ _ _ _ _ _ q; carried = ap (carried_by s) (at_4 _ _ _ _ _ _ _ _ q) }

  pub read_5 : value s frame_index ≡ 5 → ReadAs s (Frame5 (frame5_of s)) (runs_in5 s) (carried_by s columns.frame5)
  unfolding block_of runs_of carried_of
  read_5 q = record { block = at_5 _ _ _ _ _ _ _ _ q; runs = at_5 _ _ _ _ _ _ _ _ q; carried = ap (carried_by s) (at_5 _ _ _ _ _ _ _ _ q) }

  pub read_6 : value s frame_index ≡ 6 → ReadAs s (Frame6 (frame6_of s)) (runs_in6 s) (carried_by s columns.frame6)
  unfolding block_of runs_of carried_of
  read_6 q = record { block = at_6 _ _ _ _ _ _ _ _ q; runs = at_6 _ _ _ _ _ _ _ _ q; carried = ap (carried_by s) (at_6 _ _ _ _ _ _ _ _ q) }

  pub read_7 : value s frame_index ≡ 7 → ReadAs s (Frame7 (frame7_of s)) no_runs (carried_by s columns.frame7)
  unfolding block_of runs_of carried_of
  read_7 q = record { block = at_7 _ _ _ _ _ _ _ _ q; runs = at_7 _ _ _ _ _ _ _ _ q; carried = ap (carried_by s) (at_7 _ _ _ _ _ _ _ _ q) }
