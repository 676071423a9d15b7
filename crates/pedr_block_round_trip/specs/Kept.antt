-- What a block's round trips keep. Runs and items that a frame lacks are not written, and are read as zeros.
use Rattle.std.specs.Prelude.{ℕ, ◌-◌, List, ◌++◌, length, take, replicate}
use Rattle.layout.specs.Column.{Column}
use Rattle.layout.specs.Row.{RowHolds}
use Rattle.pedr_layout.specs.Block as columns
use Rattle.pedr_block.specs.Block.{block_of, layout_of, carried_count}
use Rattle.pedr_block.specs.declared.Block.{Block}
use Rattle.pedr_block.specs.declared.Block.TheVariants.{Frame1, Frame2, Frame3, Frame4, Frame5, Frame6, Frame7}
use Rattle.pedr_block_runs.specs.Runs.{no_runs, status_flags_length, tracker_length, dump_length, command_echo_length}
use Rattle.pedr_block_runs.specs.Carried.{carried_of}
use Rattle.pedr_block_runs.specs.declared.BlockRuns.{BlockRuns}
use Rattle.pedr_block_writer.specs.Rows.{items_for, block_row}

-- the items of an array of n that the frame's column has, zeros behind them
abbrev pub kept_items : ℕ → Column → List ℕ → List ℕ
kept_items n c xs = items_for c xs ++ replicate (n - c.items) 0

abbrev pub kept_runs : Block → BlockRuns → BlockRuns
kept_runs (Frame1 f) r = no_runs
kept_runs (Frame2 f) r = no_runs
kept_runs (Frame3 f) r =
    record {
      status_flags = kept_items status_flags_length columns.status_flags r.status_flags;
      range_gate_tracker_array = kept_items tracker_length columns.range_gate_tracker_array_in3 r.range_gate_tracker_array;
      memory_dump_segment = replicate dump_length 0;
      command_echo = replicate command_echo_length 0;
    }
kept_runs (Frame4 f) r =
    record {
      status_flags = replicate status_flags_length 0;
      range_gate_tracker_array = kept_items tracker_length columns.range_gate_tracker_array_in4 r.range_gate_tracker_array;
      memory_dump_segment = replicate dump_length 0;
      command_echo = replicate command_echo_length 0;
    }
kept_runs (Frame5 f) r =
    record {
      status_flags = replicate status_flags_length 0;
      range_gate_tracker_array = kept_items tracker_length columns.range_gate_tracker_array_in5 r.range_gate_tracker_array;
      memory_dump_segment = kept_items dump_length columns.memory_dump_segment_in5 r.memory_dump_segment;
      command_echo = replicate command_echo_length 0;
    }
kept_runs (Frame6 f) r =
    record {
      status_flags = replicate status_flags_length 0;
      range_gate_tracker_array = replicate tracker_length 0;
      memory_dump_segment = kept_items dump_length columns.memory_dump_segment_in6 r.memory_dump_segment;
      command_echo = kept_items command_echo_length columns.command_echo r.command_echo;
    }
kept_runs (Frame7 f) r = no_runs

-- the carried bytes that were given, zeros behind them
abbrev pub kept_carried : List ℕ → List ℕ
kept_carried carried = carried ++ replicate (columns.carried_most - length carried) 0

-- of the carried bytes that were read, as many as the block's layout leaves
abbrev pub own_carried : List ℕ → List ℕ
own_carried s = take (carried_count (block_of s)) (carried_of s)

-- what the types of a block, its runs and its carried bytes say of their numbers: each column of the block's layout has as many as items, and holds them
abbrev pub TypedBlock : Block → BlockRuns → List ℕ → Type 0
TypedBlock b r carried = RowHolds (columns.columns_in (layout_of b)) (block_row b r carried)
