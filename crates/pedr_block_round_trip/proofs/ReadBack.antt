-- A block that was written, read: what was given.
use Prim.Native.Nat.{ℕ, ◌-◌, ◌≤◌}
use mathlib.Core.Path.{◌≡◌, sym, ap, ◌∙◌}
use mathlib.Core.List.{List, ◌++◌}
use native.Mathlib.Omega.{arith}
use lib.IntN.{pos}
use lib.ListN.{length, get_or, replicate}
use lib.Seq.{take_all}
use Rattle.octets.specs.Bytes.{part}
use Rattle.octets.specs.Table.{octets_at, nats_at, ints_at}
use Rattle.octets.proofs.Codec.{octets_part}
use Rattle.layout.specs.Column.{value}
use Rattle.layout.specs.Row.{Row, end, ◌▷◌, row_of, row_parts}
use Rattle.layout.proofs.Cover.{cut_part, join_length}
use Rattle.layout.proofs.Row.{row_fits, read_row}
use Rattle.pedr_layout.specs.Layout.{frame_index}
use Rattle.pedr_layout.specs.Block as columns
use Rattle.pedr_block.specs.Frames.{frame1_of, frame2_of, frame3_of, frame5_of, frame6_of, frame7_of}
use Rattle.pedr_block.specs.Block.{layout_of, frame_number, carried_count}
use Rattle.pedr_block.specs.declared.Frame1Fields.{Frame1Fields}
use Rattle.pedr_block.specs.declared.Frame2Fields.{Frame2Fields}
use Rattle.pedr_block.specs.declared.Frame3Fields.{Frame3Fields}
use Rattle.pedr_block.specs.declared.Frame5Fields.{Frame5Fields}
use Rattle.pedr_block.specs.declared.Frame6Fields.{Frame6Fields}
use Rattle.pedr_block.specs.declared.Frame7Fields.{Frame7Fields}
use Rattle.pedr_block.specs.declared.Block.{Block}
use Rattle.pedr_block.specs.declared.Block.TheVariants.{Frame1, Frame2, Frame3, Frame4, Frame5, Frame6, Frame7}
use Rattle.pedr_block_runs.specs.Runs.{runs_in3, runs_in4, runs_in5, runs_in6}
use Rattle.pedr_block_runs.specs.Carried.{carried_by}
use Rattle.pedr_block_runs.specs.declared.BlockRuns.{BlockRuns}
use Rattle.pedr_block_writer.specs.Rows.{block_row, block_octets}
use Rattle.pedr_block_writer.proofs.Fits.{block_tiles}
use Rattle.pedr_block_round_trip.specs.Kept.{kept_runs, kept_carried, TypedBlock}
use Rattle.pedr_block_round_trip.proofs.ReadAs.{ReadAs, read_1, read_2, read_3, read_4, read_5, read_6, read_7}
use Rattle.pedr_block_round_trip.proofs.WriteBack.{block_wide}

-- ---- the fields, the runs and the carried bytes in a frame's row

abbrev fields_1 : Row (columns.columns_in columns.frame1) → Frame1Fields
fields_1 (x1 ▷ x2 ▷ x3 ▷ x4 ▷ x5 ▷ x6 ▷ x7 ▷ x8 ▷ x9 ▷ x10 ▷ x11 ▷ x12 ▷ x13 ▷ x14 ▷ end) =
    record {
      computer_memory_temperature = get_or x1 0 (pos 0);
      computer_cpu_temperature = get_or x2 0 (pos 0);
      power_supply_temperature = get_or x3 0 (pos 0);
      computer_io_temperature = get_or x4 0 (pos 0);
      laser_diode_array_temperature = get_or x5 0 (pos 0);
      laser_diode_drive_elecs_temp = get_or x6 0 (pos 0);
      optical_test_source_led_temp = get_or x7 0 (pos 0);
      hundred_mhz_oscillator_temp = get_or x8 0 (pos 0);
      start_detector_temperature = get_or x9 0 (pos 0);
      outside_detector_housing_temp = get_or x10 0 (pos 0);
      lasr_radiatr_opp_opt_port_temp = get_or x11 0 (pos 0);
      lser_radiator_output_port_temp = get_or x12 0 (pos 0);
      interface_plate_hot_foot_temp = get_or x13 0 (pos 0);
      honeycomb_panel_temperature = get_or x14 0 (pos 0);
    }

abbrev fields_2 : Row (columns.columns_in columns.frame2) → Frame2Fields
fields_2 (x1 ▷ x2 ▷ x3 ▷ x4 ▷ x5 ▷ x6 ▷ x7 ▷ x8 ▷ x9 ▷ x10 ▷ x11 ▷ x12 ▷ x13 ▷ x14 ▷ end) =
    record {
      electronics_box_top_sc_thrmstr = get_or x1 0 (pos 0);
      laser_case_hot_foot_temp = get_or x2 0 (pos 0);
      plus_28_volt_voltage_monitor = get_or x3 0 0;
      reference_voltage_monitor = get_or x4 0 0;
      plus_12_volt_voltage_monitor = get_or x5 0 0;
      plus_24_volt_voltage_monitor = get_or x6 0 0;
      plus_5_volt_voltage_monitor = get_or x7 0 0;
      minus_12_volt_voltage_monitor = get_or x8 0 0;
      laser_thermal_current_monitor = get_or x9 0 0;
      minus_5_volt_voltage_monitor = get_or x10 0 0;
      power_supply_current_monitor = get_or x11 0 0;
      high_voltage_monitor = get_or x12 0 0;
      minus_12_volt_current_monitor = get_or x13 0 0;
      plus_12_volt_current_monitor = get_or x14 0 0;
    }

abbrev fields_3 : Row (columns.columns_in columns.frame3) → Frame3Fields
fields_3 (x1 ▷ x2 ▷ x3 ▷ x4 ▷ x5 ▷ x6 ▷ x7 ▷ x8 ▷ x9 ▷ x10 ▷ x11 ▷ x12 ▷ x13 ▷ end) =
    record {
      minus_5_volt_current_monitor = get_or x1 0 0;
      plus_5_volt_current_monitor = get_or x2 0 0;
      current_status_register_value = get_or x3 0 0;
      software_version_number = get_or x4 0 0;
      flag_word = get_or x5 0 0;
      software_validity_checksum = get_or x7 0 0;
      received_command_count = get_or x8 0 0;
      command_error_count = get_or x9 0 0;
      transmitter_threshold_setting = get_or x10 0 0;
      range_tracking_status = get_or x11 0 0;
    }

abbrev runs_3 : Row (columns.columns_in columns.frame3) → BlockRuns
runs_3 (x1 ▷ x2 ▷ x3 ▷ x4 ▷ x5 ▷ x6 ▷ x7 ▷ x8 ▷ x9 ▷ x10 ▷ x11 ▷ x12 ▷ x13 ▷ end) =
    record {
      status_flags = x6 ++ replicate 0 0;
      range_gate_tracker_array = x13 ++ replicate 10 0;
      memory_dump_segment = replicate 5 0;
      command_echo = replicate 8 0;
    }

abbrev carried_3 : Row (columns.columns_in columns.frame3) → List ℕ
carried_3 (x1 ▷ x2 ▷ x3 ▷ x4 ▷ x5 ▷ x6 ▷ x7 ▷ x8 ▷ x9 ▷ x10 ▷ x11 ▷ x12 ▷ x13 ▷ end) = x12 ++ replicate 8 0

abbrev runs_4 : Row (columns.columns_in columns.frame4) → BlockRuns
runs_4 (x1 ▷ end) =
    record {
      status_flags = replicate 2 0;
      range_gate_tracker_array = x1 ++ replicate 0 0;
      memory_dump_segment = replicate 5 0;
      command_echo = replicate 8 0;
    }

abbrev fields_5 : Row (columns.columns_in columns.frame5) → Frame5Fields
fields_5 (x1 ▷ x2 ▷ x3 ▷ x4 ▷ x5 ▷ end) =
    record {
      hstart_value_histogram_dump = get_or x2 0 0;
      valid_commands_received_count = get_or x4 0 0;
    }

abbrev runs_5 : Row (columns.columns_in columns.frame5) → BlockRuns
runs_5 (x1 ▷ x2 ▷ x3 ▷ x4 ▷ x5 ▷ end) =
    record {
      status_flags = replicate 2 0;
      range_gate_tracker_array = x1 ++ replicate 8 0;
      memory_dump_segment = x5 ++ replicate 2 0;
      command_echo = replicate 8 0;
    }

abbrev carried_5 : Row (columns.columns_in columns.frame5) → List ℕ
carried_5 (x1 ▷ x2 ▷ x3 ▷ x4 ▷ x5 ▷ end) = x3 ++ replicate 6 0

abbrev fields_6 : Row (columns.columns_in columns.frame6) → Frame6Fields
fields_6 (x1 ▷ x2 ▷ x3 ▷ end) =
    record {
      packet_validity_checksum = get_or x3 0 0;
    }

abbrev runs_6 : Row (columns.columns_in columns.frame6) → BlockRuns
runs_6 (x1 ▷ x2 ▷ x3 ▷ end) =
    record {
      status_flags = replicate 2 0;
      range_gate_tracker_array = replicate 14 0;
      memory_dump_segment = x1 ++ replicate 0 0;
      command_echo = x2 ++ replicate 0 0;
    }

abbrev fields_7 : Row (columns.columns_in columns.frame7) → Frame7Fields
fields_7 (x1 ▷ x2 ▷ x3 ▷ x4 ▷ x5 ▷ x6 ▷ x7 ▷ x8 ▷ x9 ▷ x10 ▷ end) =
    record {
      ots_range = get_or x1 0 0;
      first_ch_received_energy = get_or x2 0 0;
      ots_transmit_power = get_or x4 0 0;
      ots_pulse_width = get_or x5 0 0;
      ots_pulse_amplitude = get_or x6 0 0;
      ots_qual_flag = get_or x7 0 0;
      packet_type = get_or x8 0 0;
      areocentric_longitude_of_sun = get_or x9 0 0;
    }

abbrev carried_7 : Row (columns.columns_in columns.frame7) → List ℕ
carried_7 (x1 ▷ x2 ▷ x3 ▷ x4 ▷ x5 ▷ x6 ▷ x7 ▷ x8 ▷ x9 ▷ x10 ▷ end) = (x3 ++ x10) ++ replicate 0 0

-- ---- back

-- as many carried bytes as the layout leaves, with zeros behind them
carried_kept : (c : List ℕ) (n : ℕ) → length c ≡ n → octets_at c 0 n ++ replicate (10 - n) 0 ≡ kept_carried c
carried_kept c n l =
    let e : octets_at c 0 n ≡ c = octets_part c 0 n (omega arith) ∙ take_all n c (omega arith) in
    let n_is = sym l in
    λ i. e i ++ replicate (10 - n_is i) 0

-- a block whose numbers are of their types has 28 bytes
pub typed_length : (b : Block) (r : BlockRuns) (c : List ℕ) → TypedBlock b r c → length (block_octets b r c) ≡ 28
unfolding block_octets
typed_length b r c t =
    let l = columns.columns_in (layout_of b) in
    omega (arith, join_length (row_parts l (block_row b r c)) l 508 536 (block_tiles b) (row_fits l (block_row b r c) t))

module _ (s : List ℕ) where
  -- the row that is read is the one that was written
  row_back : (b : Block) (r : BlockRuns) (c : List ℕ) → TypedBlock b r c → part s 508 28 ≡ block_octets b r c → 536 ≤ length s
      → row_of s (columns.columns_in (layout_of b)) ≡ block_row b r c
  unfolding block_octets
  row_back b r c t e room =
      let l = columns.columns_in (layout_of b) in
      let p = row_parts l (block_row b r c) in
      read_row s l (block_row b r c) 508 536 (block_tiles b) (block_wide b) room t
      (cut_part s p l 508 28 (block_tiles b) (row_fits l (block_row b r c) t) room e)

  pub block_read : (b : Block) (r : BlockRuns) (c : List ℕ) → TypedBlock b r c → length c ≡ carried_count b → part s 508 28 ≡ block_octets b r c → 536 ≤ length s
      → value s frame_index ≡ frame_number b → ReadAs s b (kept_runs b r) (kept_carried c)
  unfolding carried_by nats_at ints_at octets_at frame1_of frame2_of frame3_of frame5_of frame6_of frame7_of runs_in3 runs_in4 runs_in5 runs_in6
  block_read (Frame1 f) r c t l e room q =
      let a = read_1 s q in
      let row = row_back (Frame1 f) r c t e room in
      record { block = a.block ∙ ap (λ (x : Row (columns.columns_in columns.frame1)). Frame1 (fields_1 x)) row; runs = a.runs; carried = a.carried ∙ carried_kept c 0 l }
  block_read (Frame2 f) r c t l e room q =
      let a = read_2 s q in
      let row = row_back (Frame2 f) r c t e room in
      record { block = a.block ∙ ap (λ (x : Row (columns.columns_in columns.frame2)). Frame2 (fields_2 x)) row; runs = a.runs; carried = a.carried ∙ carried_kept c 0 l }
  block_read (Frame3 f) r c t l e room q =
      let a = read_3 s q in
      let row = row_back (Frame3 f) r c t e room in
      record { block = a.block ∙ ap (λ (x : Row (columns.columns_in columns.frame3)). Frame3 (fields_3 x)) row; runs = a.runs ∙ ap runs_3 row; carried = a.carried ∙ ap carried_3 row ∙ carried_kept c 2 l }
  block_read (Frame4 f) r c t l e room q =
      let a = read_4 s q in
      let row = row_back (Frame4 f) r c t e room in
      record { block = a.block; runs = a.runs ∙ ap runs_4 row; carried = a.carried ∙ carried_kept c 0 l }
  block_read (Frame5 f) r c t l e room q =
      let a = read_5 s q in
      let row = row_back (Frame5 f) r c t e room in
      record { block = a.block ∙ ap (λ (x : Row (columns.columns_in columns.frame5)). Frame5 (fields_5 x)) row; runs = a.runs ∙ ap runs_5 row; carried = a.carried ∙ ap carried_5 row ∙ carried_kept c 4 l }
  block_read (Frame6 f) r c t l e room q =
      let a = read_6 s q in
      let row = row_back (Frame6 f) r c t e room in
      record { block = a.block ∙ ap (λ (x : Row (columns.columns_in columns.frame6)). Frame6 (fields_6 x)) row; runs = a.runs ∙ ap runs_6 row; carried = a.carried ∙ carried_kept c 0 l }
  block_read (Frame7 f) r c t l e room q =
      let a = read_7 s q in
      let row = row_back (Frame7 f) r c t e room in
      record { block = a.block ∙ ap (λ (x : Row (columns.columns_in columns.frame7)). Frame7 (fields_7 x)) row; runs = a.runs; carried = a.carried ∙ ap carried_7 row ∙ carried_kept c 10 l }
