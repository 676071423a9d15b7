-- A block that was read, written: its bytes.
use Prim.Native.Nat.{ℕ, ◌≤◌}
use mathlib.Core.Path.{◌≡◌, refl, sym, ap, ◌∙◌}
use mathlib.Core.Bool.{true}
use mathlib.Core.List.{List}
use lib.ListN.{length, take}
use Rattle.layout.proofs.Cover.{join_part}
use Rattle.layout.proofs.Row.{wide, write_row}
use Rattle.octets.specs.Bytes.{part, Octets}
use Rattle.octets.specs.Table.{octets_at, nats_at, ints_at}
use Rattle.layout.specs.Column.{value, join}
use Rattle.layout.specs.Row.{row_of, row_parts}
use Rattle.pedr_layout.specs.Layout.{frame_index}
use Rattle.pedr_layout.specs.Block as columns
use Rattle.pedr_layout.proofs.Frames.{each_frame}
use Rattle.pedr_block.specs.Frames.{frame1_of, frame2_of, frame3_of, frame4_of, frame5_of, frame6_of, frame7_of}
use Rattle.pedr_block.specs.Block.{block_of, layout_of, carried_count}
use Rattle.pedr_block.specs.declared.Block.{Block}
use Rattle.pedr_block.specs.declared.Block.TheVariants.{Frame1, Frame2, Frame3, Frame4, Frame5, Frame6, Frame7}
use Rattle.pedr_block_runs.specs.Runs.{no_runs, runs_in3, runs_in4, runs_in5, runs_in6, runs_of}
use Rattle.pedr_block_runs.specs.Carried.{carried_by}
use Rattle.pedr_block_runs.specs.declared.BlockRuns.{BlockRuns}
use Rattle.pedr_block_writer.specs.Rows.{block_row, block_octets}
use Rattle.pedr_block_writer.proofs.Fits.{block_tiles}
use Rattle.pedr_block_round_trip.specs.Kept.{own_carried}
use Rattle.pedr_block_round_trip.proofs.ReadAs.{ReadAs, read_1, read_2, read_3, read_4, read_5, read_6, read_7}

-- each item of a layout has a byte or more
pub block_wide : (b : Block) → wide (columns.columns_in (layout_of b)) ≡ true
block_wide (Frame1 f) = refl
block_wide (Frame2 f) = refl
block_wide (Frame3 f) = refl
block_wide (Frame4 f) = refl
block_wide (Frame5 f) = refl
block_wide (Frame6 f) = refl
block_wide (Frame7 f) = refl

module _ (s : List ℕ) where
  -- the row that is written of frame k is the one that was read
  row_kept : (b : Block) (r : BlockRuns) (c : List ℕ) → Octets s → 536 ≤ length s → block_row b r c ≡ row_of s (columns.columns_in (layout_of b))
      → block_octets b r c ≡ part s 508 28
  unfolding block_octets
  row_kept b r c o h e =
      let l = columns.columns_in (layout_of b) in
      ap join (ap (row_parts l) e ∙ write_row s l 508 536 (block_tiles b) (block_wide b) o h) ∙ join_part s l 508 28 (block_tiles b)

  row_1 : block_row (Frame1 (frame1_of s)) no_runs (take 0 (carried_by s columns.frame1)) ≡ row_of s (columns.columns_in columns.frame1)
  unfolding frame1_of carried_by nats_at ints_at octets_at
  row_1 = refl

  row_2 : block_row (Frame2 (frame2_of s)) no_runs (take 0 (carried_by s columns.frame2)) ≡ row_of s (columns.columns_in columns.frame2)
  unfolding frame2_of carried_by nats_at ints_at octets_at
  row_2 = refl

  row_3 : block_row (Frame3 (frame3_of s)) (runs_in3 s) (take 2 (carried_by s columns.frame3)) ≡ row_of s (columns.columns_in columns.frame3)
  unfolding frame3_of runs_in3 carried_by nats_at ints_at octets_at
  row_3 = refl

  row_4 : block_row (Frame4 (frame4_of s)) (runs_in4 s) (take 0 (carried_by s columns.frame4)) ≡ row_of s (columns.columns_in columns.frame4)
  unfolding runs_in4 carried_by nats_at ints_at octets_at
  row_4 = refl

  row_5 : block_row (Frame5 (frame5_of s)) (runs_in5 s) (take 4 (carried_by s columns.frame5)) ≡ row_of s (columns.columns_in columns.frame5)
  unfolding frame5_of runs_in5 carried_by nats_at ints_at octets_at
  row_5 = refl

  row_6 : block_row (Frame6 (frame6_of s)) (runs_in6 s) (take 0 (carried_by s columns.frame6)) ≡ row_of s (columns.columns_in columns.frame6)
  unfolding frame6_of runs_in6 carried_by nats_at ints_at octets_at
  row_6 = refl

  row_7 : block_row (Frame7 (frame7_of s)) no_runs (take 10 (carried_by s columns.frame7)) ≡ row_of s (columns.columns_in columns.frame7)
  unfolding frame7_of carried_by nats_at ints_at octets_at
  row_7 = refl

  -- what was read of the block, written
  pub block_back : 1 ≤ value s frame_index → value s frame_index ≤ 7 → Octets s → 536 ≤ length s
      → block_octets (block_of s) (runs_of s) (own_carried s) ≡ part s 508 28
  block_back l h o room =
      each_frame (λ n. value s frame_index ≡ n → block_octets (block_of s) (runs_of s) (own_carried s) ≡ part s 508 28) (value s frame_index) l h
      (λ q. same (read_1 s q) ∙ row_kept (Frame1 (frame1_of s)) no_runs _ o room row_1)
      (λ q. same (read_2 s q) ∙ row_kept (Frame2 (frame2_of s)) no_runs _ o room row_2)
      (λ q. same (read_3 s q) ∙ row_kept (Frame3 (frame3_of s)) (runs_in3 s) _ o room row_3)
      (λ q. same (read_4 s q) ∙ row_kept (Frame4 (frame4_of s)) (runs_in4 s) _ o room row_4)
      (λ q. same (read_5 s q) ∙ row_kept (Frame5 (frame5_of s)) (runs_in5 s) _ o room row_5)
      (λ q. same (read_6 s q) ∙ row_kept (Frame6 (frame6_of s)) (runs_in6 s) _ o room row_6)
      (λ q. same (read_7 s q) ∙ row_kept (Frame7 (frame7_of s)) no_runs _ o room row_7)
      refl
    where
      same : {b : Block} {r : BlockRuns} {c : List ℕ} → ReadAs s b r c
          → block_octets (block_of s) (runs_of s) (own_carried s) ≡ block_octets b r (take (carried_count b) c)
      same e = λ i. block_octets (e.block i) (e.runs i) (take (carried_count (e.block i)) (e.carried i))

  -- with as many carried bytes as its layout leaves
  pub own_length : 1 ≤ value s frame_index → value s frame_index ≤ 7 → length (own_carried s) ≡ carried_count (block_of s)
  unfolding carried_by octets_at
  own_length l h =
      each_frame (λ n. value s frame_index ≡ n → length (own_carried s) ≡ carried_count (block_of s)) (value s frame_index) l h
      (λ q. same (read_1 s q) refl)
      (λ q. same (read_2 s q) refl)
      (λ q. same (read_3 s q) refl)
      (λ q. same (read_4 s q) refl)
      (λ q. same (read_5 s q) refl)
      (λ q. same (read_6 s q) refl)
      (λ q. same (read_7 s q) refl)
      refl
    where
      same : {b : Block} {r : BlockRuns} {c : List ℕ} → ReadAs s b r c → length (take (carried_count b) c) ≡ carried_count b
          → length (own_carried s) ≡ carried_count (block_of s)
      same {b} {r} {c} e p = (λ i. length (take (carried_count (e.block i)) (e.carried i))) ∙ p ∙ ap carried_count (sym e.block)
