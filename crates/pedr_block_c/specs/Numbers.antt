-- The engineering block in numbers, for callers in languages that have no such enums: the frame, and a struct for each frame that has single fields.
use Rattle.std.specs.Prelude.{ℕ, cond, eqb, pos}
use Rattle.pedr_layout.specs.Block.{by_frame}
use Rattle.pedr_block.specs.declared.Frame1Fields.{Frame1Fields}
use Rattle.pedr_block.specs.declared.Frame2Fields.{Frame2Fields}
use Rattle.pedr_block.specs.declared.Frame3Fields.{Frame3Fields}
use Rattle.pedr_block.specs.declared.Frame5Fields.{Frame5Fields}
use Rattle.pedr_block.specs.declared.Frame6Fields.{Frame6Fields}
use Rattle.pedr_block.specs.declared.Frame7Fields.{Frame7Fields}
use Rattle.pedr_block.specs.declared.Block.{Block}
use Rattle.pedr_block.specs.declared.Block.TheVariants.{Frame1, Frame2, Frame3, Frame4, Frame5, Frame6, Frame7}
use Rattle.pedr_block_c.specs.declared.BlockNumbers.{BlockNumbers}

-- ---- zeros, for the frames that the record is not of

unfoldable pub no_frame_1 : Frame1Fields
no_frame_1 =
    record {
      computer_memory_temperature = pos 0;
      computer_cpu_temperature = pos 0;
      power_supply_temperature = pos 0;
      computer_io_temperature = pos 0;
      laser_diode_array_temperature = pos 0;
      laser_diode_drive_elecs_temp = pos 0;
      optical_test_source_led_temp = pos 0;
      hundred_mhz_oscillator_temp = pos 0;
      start_detector_temperature = pos 0;
      outside_detector_housing_temp = pos 0;
      lasr_radiatr_opp_opt_port_temp = pos 0;
      lser_radiator_output_port_temp = pos 0;
      interface_plate_hot_foot_temp = pos 0;
      honeycomb_panel_temperature = pos 0;
    }

unfoldable pub no_frame_2 : Frame2Fields
no_frame_2 =
    record {
      electronics_box_top_sc_thrmstr = pos 0;
      laser_case_hot_foot_temp = pos 0;
      plus_28_volt_voltage_monitor = 0;
      reference_voltage_monitor = 0;
      plus_12_volt_voltage_monitor = 0;
      plus_24_volt_voltage_monitor = 0;
      plus_5_volt_voltage_monitor = 0;
      minus_12_volt_voltage_monitor = 0;
      laser_thermal_current_monitor = 0;
      minus_5_volt_voltage_monitor = 0;
      power_supply_current_monitor = 0;
      high_voltage_monitor = 0;
      minus_12_volt_current_monitor = 0;
      plus_12_volt_current_monitor = 0;
    }

unfoldable pub no_frame_3 : Frame3Fields
no_frame_3 =
    record {
      minus_5_volt_current_monitor = 0;
      plus_5_volt_current_monitor = 0;
      current_status_register_value = 0;
      software_version_number = 0;
      flag_word = 0;
      software_validity_checksum = 0;
      received_command_count = 0;
      command_error_count = 0;
      transmitter_threshold_setting = 0;
      range_tracking_status = 0;
    }

unfoldable pub no_frame_5 : Frame5Fields
no_frame_5 =
    record {
      hstart_value_histogram_dump = 0;
      valid_commands_received_count = 0;
    }

unfoldable pub no_frame_6 : Frame6Fields
no_frame_6 =
    record {
      packet_validity_checksum = 0;
    }

unfoldable pub no_frame_7 : Frame7Fields
no_frame_7 =
    record {
      ots_range = 0;
      first_ch_received_energy = 0;
      ots_transmit_power = 0;
      ots_pulse_width = 0;
      ots_pulse_amplitude = 0;
      ots_qual_flag = 0;
      packet_type = 0;
      areocentric_longitude_of_sun = 0;
    }

-- ---- a block and its numbers

unfoldable pub no_block : BlockNumbers
no_block = record { frame = 0; frame_1 = no_frame_1; frame_2 = no_frame_2; frame_3 = no_frame_3; frame_5 = no_frame_5; frame_6 = no_frame_6; frame_7 = no_frame_7 }

unfoldable pub block_numbers : Block → BlockNumbers
block_numbers (Frame1 f) = record { frame = 1; frame_1 = f; frame_2 = no_frame_2; frame_3 = no_frame_3; frame_5 = no_frame_5; frame_6 = no_frame_6; frame_7 = no_frame_7 }
block_numbers (Frame2 f) = record { frame = 2; frame_1 = no_frame_1; frame_2 = f; frame_3 = no_frame_3; frame_5 = no_frame_5; frame_6 = no_frame_6; frame_7 = no_frame_7 }
block_numbers (Frame3 f) = record { frame = 3; frame_1 = no_frame_1; frame_2 = no_frame_2; frame_3 = f; frame_5 = no_frame_5; frame_6 = no_frame_6; frame_7 = no_frame_7 }
block_numbers (Frame4 f) = record { frame = 4; frame_1 = no_frame_1; frame_2 = no_frame_2; frame_3 = no_frame_3; frame_5 = no_frame_5; frame_6 = no_frame_6; frame_7 = no_frame_7 }
block_numbers (Frame5 f) = record { frame = 5; frame_1 = no_frame_1; frame_2 = no_frame_2; frame_3 = no_frame_3; frame_5 = f; frame_6 = no_frame_6; frame_7 = no_frame_7 }
block_numbers (Frame6 f) = record { frame = 6; frame_1 = no_frame_1; frame_2 = no_frame_2; frame_3 = no_frame_3; frame_5 = no_frame_5; frame_6 = f; frame_7 = no_frame_7 }
block_numbers (Frame7 f) = record { frame = 7; frame_1 = no_frame_1; frame_2 = no_frame_2; frame_3 = no_frame_3; frame_5 = no_frame_5; frame_6 = no_frame_6; frame_7 = f }

-- the block of a frame number that is none of 1 to 7: one that is not of the frame index, and leaves no carried bytes
abbrev pub other_block : Frame1Fields → Frame2Fields → ℕ → Block
other_block f g index = cond (eqb index 1) (Frame2 g) (Frame1 f)

unfoldable pub block_of_numbers : BlockNumbers → ℕ → Block
block_of_numbers n index =
    by_frame n.frame (Frame1 n.frame_1) (Frame2 n.frame_2) (Frame3 n.frame_3) (Frame4 (record {})) (Frame5 n.frame_5) (Frame6 n.frame_6)
    (cond (eqb n.frame 7) (Frame7 n.frame_7) (other_block n.frame_1 n.frame_2 index))
