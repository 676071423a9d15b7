-- The parts of a block fit the columns of its layout.
use Prim.Native.Nat.{ℕ}
use mathlib.Core.Path.{◌≡◌, refl}
use mathlib.Core.Bool.{true}
use mathlib.Core.List.{List}
use native.Mathlib.Omega.{arith}
use lib.ListN.{length}
use Rattle.octets.specs.Table.{octets_of_all}
use Rattle.layout.specs.Column.{Column, tiles, join}
use Rattle.layout.specs.Row.{row_parts}
use Rattle.layout.proofs.Cover.{Fit, done, ◌▹◌, join_length}
use Rattle.layout.proofs.Store.{Puts, puts_join}
use Rattle.octets.specs.Bytes.{put}
use Rattle.pedr_layout.specs.Block as columns
use Rattle.pedr_layout.proofs.Block.{frame_tiles}
use Rattle.pedr_block.specs.Block.{layout_of}
use Rattle.pedr_block.specs.declared.Frame1Fields.{Frame1Fields}
use Rattle.pedr_block.specs.declared.Frame2Fields.{Frame2Fields}
use Rattle.pedr_block.specs.declared.Frame3Fields.{Frame3Fields}
use Rattle.pedr_block.specs.declared.Frame5Fields.{Frame5Fields}
use Rattle.pedr_block.specs.declared.Frame6Fields.{Frame6Fields}
use Rattle.pedr_block.specs.declared.Frame7Fields.{Frame7Fields}
use Rattle.pedr_block.specs.declared.Block.{Block}
use Rattle.pedr_block.specs.declared.Block.TheVariants.{Frame1, Frame2, Frame3, Frame4, Frame5, Frame6, Frame7}
use Rattle.pedr_block_writer.specs.Rows.{frame1_row, frame2_row, frame3_row, frame4_row, frame5_row, frame6_row, frame7_row}
use Rattle.pedr_block_writer.proofs.Stores.{run_fits, bytes_fit}

pub frame1_fits : (f : Frame1Fields) → Fit (row_parts (columns.columns_in columns.frame1) (frame1_row f)) (columns.columns_in columns.frame1)
unfolding octets_of_all
frame1_fits f = refl ▹ refl ▹ refl ▹ refl ▹ refl ▹ refl ▹ refl ▹ refl ▹ refl ▹ refl ▹ refl ▹ refl ▹ refl ▹ refl ▹ done

pub frame2_fits : (f : Frame2Fields) → Fit (row_parts (columns.columns_in columns.frame2) (frame2_row f)) (columns.columns_in columns.frame2)
unfolding octets_of_all
frame2_fits f = refl ▹ refl ▹ refl ▹ refl ▹ refl ▹ refl ▹ refl ▹ refl ▹ refl ▹ refl ▹ refl ▹ refl ▹ refl ▹ refl ▹ done

pub frame3_fits : (f : Frame3Fields) (flags tracker carried : List ℕ) → length flags ≡ 2 → length tracker ≡ 14
    → Fit (row_parts (columns.columns_in columns.frame3) (frame3_row f flags tracker carried)) (columns.columns_in columns.frame3)
unfolding octets_of_all
frame3_fits f flags tracker carried lf lt =
    refl ▹ refl ▹ refl ▹ refl ▹ refl ▹ run_fits 2 flags (omega arith) ▹ refl ▹ refl ▹ refl ▹ refl ▹ refl ▹ bytes_fit carried 0 2
    ▹ run_fits 4 tracker (omega arith) ▹ done

pub frame4_fits : (tracker : List ℕ) → length tracker ≡ 14
    → Fit (row_parts (columns.columns_in columns.frame4) (frame4_row tracker)) (columns.columns_in columns.frame4)
frame4_fits tracker lt = run_fits 14 tracker (omega arith) ▹ done

pub frame5_fits : (f : Frame5Fields) (tracker dump carried : List ℕ) → length tracker ≡ 14 → length dump ≡ 5
    → Fit (row_parts (columns.columns_in columns.frame5) (frame5_row f tracker dump carried)) (columns.columns_in columns.frame5)
unfolding octets_of_all
frame5_fits f tracker dump carried lt ld =
    run_fits 6 tracker (omega arith) ▹ refl ▹ bytes_fit carried 0 4 ▹ refl ▹ run_fits 3 dump (omega arith) ▹ done

pub frame6_fits : (f : Frame6Fields) (dump echo : List ℕ) → length dump ≡ 5 → length echo ≡ 8
    → Fit (row_parts (columns.columns_in columns.frame6) (frame6_row f dump echo)) (columns.columns_in columns.frame6)
unfolding octets_of_all
frame6_fits f dump echo ld le = run_fits 5 dump (omega arith) ▹ run_fits 8 echo (omega arith) ▹ refl ▹ done

pub frame7_fits : (f : Frame7Fields) (carried : List ℕ)
    → Fit (row_parts (columns.columns_in columns.frame7) (frame7_row f carried)) (columns.columns_in columns.frame7)
unfolding octets_of_all
frame7_fits f carried = refl ▹ refl ▹ bytes_fit carried 0 4 ▹ refl ▹ refl ▹ refl ▹ refl ▹ refl ▹ refl ▹ bytes_fit carried 4 6 ▹ done

-- its layout covers the block
pub block_tiles : (b : Block) → tiles columns.block_start columns.block_end (columns.columns_in (layout_of b)) ≡ true
block_tiles (Frame1 f) = frame_tiles 1 (omega arith) (omega arith)
block_tiles (Frame2 f) = frame_tiles 2 (omega arith) (omega arith)
block_tiles (Frame3 f) = frame_tiles 3 (omega arith) (omega arith)
block_tiles (Frame4 f) = frame_tiles 4 (omega arith) (omega arith)
block_tiles (Frame5 f) = frame_tiles 5 (omega arith) (omega arith)
block_tiles (Frame6 f) = frame_tiles 6 (omega arith) (omega arith)
block_tiles (Frame7 f) = frame_tiles 7 (omega arith) (omega arith)

-- stores at its columns store all of its 28 bytes
pub frame_stored : (ps : List (List ℕ)) (cs : List Column) {s t : List ℕ} → tiles columns.block_start columns.block_end cs ≡ true → Fit ps cs → Puts s ps cs t
    → (t ≡ put s columns.block_start (join ps)) × (length (join ps) ≡ 28)
frame_stored ps cs t f p = (puts_join ps cs columns.block_start columns.block_end t f p, omega (arith, join_length ps cs columns.block_start columns.block_end t f))
