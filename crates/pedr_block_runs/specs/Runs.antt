-- Request 2: the columns of the engineering block that are runs of items, by the table of the frame's layout. The items are raw numbers of 16 bits; they stand
-- in arrays as long as the longest run of their name, and what the frame lacks is zeros.
use Rattle.std.specs.Prelude.{ℕ, ◌-◌, List, ◌++◌, replicate}
use Rattle.octets.specs.Table.{nats_at}
use Rattle.layout.specs.Column.{Column, value}
use Rattle.pedr_layout.specs.Layout.{frame_index}
use Rattle.pedr_layout.specs.Block as columns
use Rattle.pedr_block_runs.specs.declared.BlockRuns.{BlockRuns}

-- the lengths of the arrays: each run has all of one frame's
abbrev pub status_flags_length : ℕ
status_flags_length = (columns.status_flags).items

abbrev pub tracker_length : ℕ
tracker_length = (columns.range_gate_tracker_array_in4).items

abbrev pub dump_length : ℕ
dump_length = (columns.memory_dump_segment_in6).items

abbrev pub command_echo_length : ℕ
command_echo_length = (columns.command_echo).items

-- a column's items in an array of n, zeros behind them
abbrev pub items_in : ℕ → List ℕ → Column → List ℕ
items_in n s c = nats_at s c.start c.width c.items ++ replicate (n - c.items) 0

unfoldable pub no_runs : BlockRuns
no_runs =
    record {
      status_flags = replicate status_flags_length 0;
      range_gate_tracker_array = replicate tracker_length 0;
      memory_dump_segment = replicate dump_length 0;
      command_echo = replicate command_echo_length 0;
    }

unfoldable pub runs_in3 : List ℕ → BlockRuns
runs_in3 s =
    record {
      status_flags = items_in status_flags_length s columns.status_flags;
      range_gate_tracker_array = items_in tracker_length s columns.range_gate_tracker_array_in3;
      memory_dump_segment = replicate dump_length 0;
      command_echo = replicate command_echo_length 0;
    }

unfoldable pub runs_in4 : List ℕ → BlockRuns
runs_in4 s =
    record {
      status_flags = replicate status_flags_length 0;
      range_gate_tracker_array = items_in tracker_length s columns.range_gate_tracker_array_in4;
      memory_dump_segment = replicate dump_length 0;
      command_echo = replicate command_echo_length 0;
    }

unfoldable pub runs_in5 : List ℕ → BlockRuns
runs_in5 s =
    record {
      status_flags = replicate status_flags_length 0;
      range_gate_tracker_array = items_in tracker_length s columns.range_gate_tracker_array_in5;
      memory_dump_segment = items_in dump_length s columns.memory_dump_segment_in5;
      command_echo = replicate command_echo_length 0;
    }

unfoldable pub runs_in6 : List ℕ → BlockRuns
runs_in6 s =
    record {
      status_flags = replicate status_flags_length 0;
      range_gate_tracker_array = replicate tracker_length 0;
      memory_dump_segment = items_in dump_length s columns.memory_dump_segment_in6;
      command_echo = items_in command_echo_length s columns.command_echo;
    }

-- by the frame index
unfoldable pub runs_of : List ℕ → BlockRuns
runs_of s = columns.by_frame (value s frame_index) no_runs no_runs (runs_in3 s) (runs_in4 s) (runs_in5 s) (runs_in6 s) no_runs
