-- Request 2, "Name the engineering block": a frame's fields that are single numbers, by the tables of its layout.
use Rattle.std.specs.Prelude.{ℕ, List}
use Rattle.layout.specs.Column.{value}
use Rattle.pedr_layout.specs.Block as columns
use Rattle.pedr_block.specs.declared.Frame1Fields.{Frame1Fields}
use Rattle.pedr_block.specs.declared.Frame2Fields.{Frame2Fields}
use Rattle.pedr_block.specs.declared.Frame3Fields.{Frame3Fields}
use Rattle.pedr_block.specs.declared.Frame4Fields.{Frame4Fields}
use Rattle.pedr_block.specs.declared.Frame5Fields.{Frame5Fields}
use Rattle.pedr_block.specs.declared.Frame6Fields.{Frame6Fields}
use Rattle.pedr_block.specs.declared.Frame7Fields.{Frame7Fields}

unfoldable pub frame1_of : List ℕ → Frame1Fields
frame1_of s =
    record {
      computer_memory_temperature = value s columns.computer_memory_temperature;
      computer_cpu_temperature = value s columns.computer_cpu_temperature;
      power_supply_temperature = value s columns.power_supply_temperature;
      computer_io_temperature = value s columns.computer_io_temperature;
      laser_diode_array_temperature = value s columns.laser_diode_array_temperature;
      laser_diode_drive_elecs_temp = value s columns.laser_diode_drive_elecs_temp;
      optical_test_source_led_temp = value s columns.optical_test_source_led_temp;
      hundred_mhz_oscillator_temp = value s columns.hundred_mhz_oscillator_temp;
      start_detector_temperature = value s columns.start_detector_temperature;
      outside_detector_housing_temp = value s columns.outside_detector_housing_temp;
      lasr_radiatr_opp_opt_port_temp = value s columns.lasr_radiatr_opp_opt_port_temp;
      lser_radiator_output_port_temp = value s columns.lser_radiator_output_port_temp;
      interface_plate_hot_foot_temp = value s columns.interface_plate_hot_foot_temp;
      honeycomb_panel_temperature = value s columns.honeycomb_panel_temperature;
    }

unfoldable pub frame2_of : List ℕ → Frame2Fields
frame2_of s =
    record {
      electronics_box_top_sc_thrmstr = value s columns.electronics_box_top_sc_thrmstr;
      laser_case_hot_foot_temp = value s columns.laser_case_hot_foot_temp;
      plus_28_volt_voltage_monitor = value s columns.plus_28_volt_voltage_monitor;
      reference_voltage_monitor = value s columns.reference_voltage_monitor;
      plus_12_volt_voltage_monitor = value s columns.plus_12_volt_voltage_monitor;
      plus_24_volt_voltage_monitor = value s columns.plus_24_volt_voltage_monitor;
      plus_5_volt_voltage_monitor = value s columns.plus_5_volt_voltage_monitor;
      minus_12_volt_voltage_monitor = value s columns.minus_12_volt_voltage_monitor;
      laser_thermal_current_monitor = value s columns.laser_thermal_current_monitor;
      minus_5_volt_voltage_monitor = value s columns.minus_5_volt_voltage_monitor;
      power_supply_current_monitor = value s columns.power_supply_current_monitor;
      high_voltage_monitor = value s columns.high_voltage_monitor;
      minus_12_volt_current_monitor = value s columns.minus_12_volt_current_monitor;
      plus_12_volt_current_monitor = value s columns.plus_12_volt_current_monitor;
    }

unfoldable pub frame3_of : List ℕ → Frame3Fields
frame3_of s =
    record {
      minus_5_volt_current_monitor = value s columns.minus_5_volt_current_monitor;
      plus_5_volt_current_monitor = value s columns.plus_5_volt_current_monitor;
      current_status_register_value = value s columns.current_status_register_value;
      software_version_number = value s columns.software_version_number;
      flag_word = value s columns.flag_word;
      software_validity_checksum = value s columns.software_validity_checksum;
      received_command_count = value s columns.received_command_count;
      command_error_count = value s columns.command_error_count;
      transmitter_threshold_setting = value s columns.transmitter_threshold_setting;
      range_tracking_status = value s columns.range_tracking_status;
    }

abbrev pub frame4_of : List ℕ → Frame4Fields
frame4_of s = record {}

unfoldable pub frame5_of : List ℕ → Frame5Fields
frame5_of s =
    record {
      hstart_value_histogram_dump = value s columns.hstart_value_histogram_dump;
      valid_commands_received_count = value s columns.valid_commands_received_count;
    }

unfoldable pub frame6_of : List ℕ → Frame6Fields
frame6_of s =
    record {
      packet_validity_checksum = value s columns.packet_validity_checksum;
    }

unfoldable pub frame7_of : List ℕ → Frame7Fields
frame7_of s =
    record {
      ots_range = value s columns.ots_range;
      first_ch_received_energy = value s columns.first_ch_received_energy;
      ots_transmit_power = value s columns.ots_transmit_power;
      ots_pulse_width = value s columns.ots_pulse_width;
      ots_pulse_amplitude = value s columns.ots_pulse_amplitude;
      ots_qual_flag = value s columns.ots_qual_flag;
      packet_type = value s columns.packet_type;
      areocentric_longitude_of_sun = value s columns.areocentric_longitude_of_sun;
    }
