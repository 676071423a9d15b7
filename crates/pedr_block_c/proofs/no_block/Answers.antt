-- Field by field, as the derived default states it.
use Rattle.pedr_block_c.specs.Numbers.{no_frame_1, no_frame_2, no_frame_3, no_frame_5, no_frame_6, no_frame_7, no_block}
use Rattle.pedr_block_c.proofs.no_block.Goals as goal

pub returns : goal.returns
unfolding no_block no_frame_1 no_frame_2 no_frame_3 no_frame_5 no_frame_6 no_frame_7
returns c =
    let h = c.default.ensures in
    λ i. record {
      frame = h.0 i;
      frame_1 = record { computer_memory_temperature = h.1.0.0 i; computer_cpu_temperature = h.1.0.1.0 i; power_supply_temperature = h.1.0.1.1.0 i; computer_io_temperature = h.1.0.1.1.1.0 i; laser_diode_array_temperature = h.1.0.1.1.1.1.0 i; laser_diode_drive_elecs_temp = h.1.0.1.1.1.1.1.0 i; optical_test_source_led_temp = h.1.0.1.1.1.1.1.1.0 i; hundred_mhz_oscillator_temp = h.1.0.1.1.1.1.1.1.1.0 i; start_detector_temperature = h.1.0.1.1.1.1.1.1.1.1.0 i; outside_detector_housing_temp = h.1.0.1.1.1.1.1.1.1.1.1.0 i; lasr_radiatr_opp_opt_port_temp = h.1.0.1.1.1.1.1.1.1.1.1.1.0 i; lser_radiator_output_port_temp = h.1.0.1.1.1.1.1.1.1.1.1.1.1.0 i; interface_plate_hot_foot_temp = h.1.0.1.1.1.1.1.1.1.1.1.1.1.1.0 i; honeycomb_panel_temperature = h.1.0.1.1.1.1.1.1.1.1.1.1.1.1.1 i };
      frame_2 = record { electronics_box_top_sc_thrmstr = h.1.1.0.0 i; laser_case_hot_foot_temp = h.1.1.0.1.0 i; plus_28_volt_voltage_monitor = h.1.1.0.1.1.0 i; reference_voltage_monitor = h.1.1.0.1.1.1.0 i; plus_12_volt_voltage_monitor = h.1.1.0.1.1.1.1.0 i; plus_24_volt_voltage_monitor = h.1.1.0.1.1.1.1.1.0 i; plus_5_volt_voltage_monitor = h.1.1.0.1.1.1.1.1.1.0 i; minus_12_volt_voltage_monitor = h.1.1.0.1.1.1.1.1.1.1.0 i; laser_thermal_current_monitor = h.1.1.0.1.1.1.1.1.1.1.1.0 i; minus_5_volt_voltage_monitor = h.1.1.0.1.1.1.1.1.1.1.1.1.0 i; power_supply_current_monitor = h.1.1.0.1.1.1.1.1.1.1.1.1.1.0 i; high_voltage_monitor = h.1.1.0.1.1.1.1.1.1.1.1.1.1.1.0 i; minus_12_volt_current_monitor = h.1.1.0.1.1.1.1.1.1.1.1.1.1.1.1.0 i; plus_12_volt_current_monitor = h.1.1.0.1.1.1.1.1.1.1.1.1.1.1.1.1 i };
      frame_3 = record { minus_5_volt_current_monitor = h.1.1.1.0.0 i; plus_5_volt_current_monitor = h.1.1.1.0.1.0 i; current_status_register_value = h.1.1.1.0.1.1.0 i; software_version_number = h.1.1.1.0.1.1.1.0 i; flag_word = h.1.1.1.0.1.1.1.1.0 i; software_validity_checksum = h.1.1.1.0.1.1.1.1.1.0 i; received_command_count = h.1.1.1.0.1.1.1.1.1.1.0 i; command_error_count = h.1.1.1.0.1.1.1.1.1.1.1.0 i; transmitter_threshold_setting = h.1.1.1.0.1.1.1.1.1.1.1.1.0 i; range_tracking_status = h.1.1.1.0.1.1.1.1.1.1.1.1.1 i };
      frame_5 = record { hstart_value_histogram_dump = h.1.1.1.1.0.0 i; valid_commands_received_count = h.1.1.1.1.0.1 i };
      frame_6 = record { packet_validity_checksum = h.1.1.1.1.1.0 i };
      frame_7 = record { ots_range = h.1.1.1.1.1.1.0 i; first_ch_received_energy = h.1.1.1.1.1.1.1.0 i; ots_transmit_power = h.1.1.1.1.1.1.1.1.0 i; ots_pulse_width = h.1.1.1.1.1.1.1.1.1.0 i; ots_pulse_amplitude = h.1.1.1.1.1.1.1.1.1.1.0 i; ots_qual_flag = h.1.1.1.1.1.1.1.1.1.1.1.0 i; packet_type = h.1.1.1.1.1.1.1.1.1.1.1.1.0 i; areocentric_longitude_of_sun = h.1.1.1.1.1.1.1.1.1.1.1.1.1 i };
    }
