-- Request 2: "The writer takes the same answer." What each column of a frame's layout holds, in its order: a field, the first items of a run, or the next
-- carried bytes. Runs and items that the frame lacks are not looked at.
use Rattle.std.specs.Prelude.{ℕ, List, [], ◌∷◌, take}
use Rattle.octets.specs.Table.{octets_at}
use Rattle.layout.specs.Column.{Column, join}
use Rattle.layout.specs.Row.{Row, end, ◌▷◌, row_parts}
use Rattle.pedr_layout.specs.Block as columns
use Rattle.pedr_block.specs.Block.{layout_of}
use Rattle.pedr_block.specs.declared.Frame1Fields.{Frame1Fields}
use Rattle.pedr_block.specs.declared.Frame2Fields.{Frame2Fields}
use Rattle.pedr_block.specs.declared.Frame3Fields.{Frame3Fields}
use Rattle.pedr_block.specs.declared.Frame5Fields.{Frame5Fields}
use Rattle.pedr_block.specs.declared.Frame6Fields.{Frame6Fields}
use Rattle.pedr_block.specs.declared.Frame7Fields.{Frame7Fields}
use Rattle.pedr_block.specs.declared.Block.{Block}
use Rattle.pedr_block.specs.declared.Block.TheVariants.{Frame1, Frame2, Frame3, Frame4, Frame5, Frame6, Frame7}
use Rattle.pedr_block_runs.specs.declared.BlockRuns.{BlockRuns}

-- as many items of an array as the column has
abbrev pub items_for : Column → List ℕ → List ℕ
items_for c xs = take c.items xs

abbrev pub frame1_row : Frame1Fields → Row (columns.columns_in columns.frame1)
frame1_row f =
    (f.computer_memory_temperature ∷ [])
    ▷ (f.computer_cpu_temperature ∷ [])
    ▷ (f.power_supply_temperature ∷ [])
    ▷ (f.computer_io_temperature ∷ [])
    ▷ (f.laser_diode_array_temperature ∷ [])
    ▷ (f.laser_diode_drive_elecs_temp ∷ [])
    ▷ (f.optical_test_source_led_temp ∷ [])
    ▷ (f.hundred_mhz_oscillator_temp ∷ [])
    ▷ (f.start_detector_temperature ∷ [])
    ▷ (f.outside_detector_housing_temp ∷ [])
    ▷ (f.lasr_radiatr_opp_opt_port_temp ∷ [])
    ▷ (f.lser_radiator_output_port_temp ∷ [])
    ▷ (f.interface_plate_hot_foot_temp ∷ [])
    ▷ (f.honeycomb_panel_temperature ∷ [])
    ▷ end

abbrev pub frame2_row : Frame2Fields → Row (columns.columns_in columns.frame2)
frame2_row f =
    (f.electronics_box_top_sc_thrmstr ∷ [])
    ▷ (f.laser_case_hot_foot_temp ∷ [])
    ▷ (f.plus_28_volt_voltage_monitor ∷ [])
    ▷ (f.reference_voltage_monitor ∷ [])
    ▷ (f.plus_12_volt_voltage_monitor ∷ [])
    ▷ (f.plus_24_volt_voltage_monitor ∷ [])
    ▷ (f.plus_5_volt_voltage_monitor ∷ [])
    ▷ (f.minus_12_volt_voltage_monitor ∷ [])
    ▷ (f.laser_thermal_current_monitor ∷ [])
    ▷ (f.minus_5_volt_voltage_monitor ∷ [])
    ▷ (f.power_supply_current_monitor ∷ [])
    ▷ (f.high_voltage_monitor ∷ [])
    ▷ (f.minus_12_volt_current_monitor ∷ [])
    ▷ (f.plus_12_volt_current_monitor ∷ [])
    ▷ end

abbrev pub frame3_row : Frame3Fields → List ℕ → List ℕ → List ℕ → Row (columns.columns_in columns.frame3)
frame3_row f flags tracker carried =
    (f.minus_5_volt_current_monitor ∷ [])
    ▷ (f.plus_5_volt_current_monitor ∷ [])
    ▷ (f.current_status_register_value ∷ [])
    ▷ (f.software_version_number ∷ [])
    ▷ (f.flag_word ∷ [])
    ▷ items_for columns.status_flags flags
    ▷ (f.software_validity_checksum ∷ [])
    ▷ (f.received_command_count ∷ [])
    ▷ (f.command_error_count ∷ [])
    ▷ (f.transmitter_threshold_setting ∷ [])
    ▷ (f.range_tracking_status ∷ [])
    ▷ octets_at carried 0 (columns.spare527).items
    ▷ items_for columns.range_gate_tracker_array_in3 tracker
    ▷ end

abbrev pub frame4_row : List ℕ → Row (columns.columns_in columns.frame4)
frame4_row tracker =
    items_for columns.range_gate_tracker_array_in4 tracker
    ▷ end

abbrev pub frame5_row : Frame5Fields → List ℕ → List ℕ → List ℕ → Row (columns.columns_in columns.frame5)
frame5_row f tracker dump carried =
    items_for columns.range_gate_tracker_array_in5 tracker
    ▷ (f.hstart_value_histogram_dump ∷ [])
    ▷ octets_at carried 0 (columns.spare525).items
    ▷ (f.valid_commands_received_count ∷ [])
    ▷ items_for columns.memory_dump_segment_in5 dump
    ▷ end

abbrev pub frame6_row : Frame6Fields → List ℕ → List ℕ → Row (columns.columns_in columns.frame6)
frame6_row f dump echo =
    items_for columns.memory_dump_segment_in6 dump
    ▷ items_for columns.command_echo echo
    ▷ (f.packet_validity_checksum ∷ [])
    ▷ end

abbrev pub frame7_row : Frame7Fields → List ℕ → Row (columns.columns_in columns.frame7)
frame7_row f carried =
    (f.ots_range ∷ [])
    ▷ (f.first_ch_received_energy ∷ [])
    ▷ octets_at carried 0 (columns.spare517).items
    ▷ (f.ots_transmit_power ∷ [])
    ▷ (f.ots_pulse_width ∷ [])
    ▷ (f.ots_pulse_amplitude ∷ [])
    ▷ (f.ots_qual_flag ∷ [])
    ▷ (f.packet_type ∷ [])
    ▷ (f.areocentric_longitude_of_sun ∷ [])
    ▷ octets_at carried (columns.spare517).items (columns.spare531).items
    ▷ end

abbrev pub block_row : (b : Block) → BlockRuns → List ℕ → Row (columns.columns_in (layout_of b))
block_row (Frame1 f) r carried = frame1_row f
block_row (Frame2 f) r carried = frame2_row f
block_row (Frame3 f) r carried = frame3_row f r.status_flags r.range_gate_tracker_array carried
block_row (Frame4 f) r carried = frame4_row r.range_gate_tracker_array
block_row (Frame5 f) r carried = frame5_row f r.range_gate_tracker_array r.memory_dump_segment carried
block_row (Frame6 f) r carried = frame6_row f r.memory_dump_segment r.command_echo
block_row (Frame7 f) r carried = frame7_row f carried

-- the block's 28 bytes
unfoldable pub block_octets : Block → BlockRuns → List ℕ → List ℕ
block_octets b r carried = join (row_parts (columns.columns_in (layout_of b)) (block_row b r carried))
