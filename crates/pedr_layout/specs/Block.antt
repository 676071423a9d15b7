-- Document 000, appendices C.3 to C.9: the engineering block, record bytes 509 to 536, by the record's frame index. START_BYTE is the record byte, as in the
-- record's own list. The block ends before appendix C.10's first column, ORBIT_QUALITY_FLAG, at 537. A column keeps its name there; one that several frames
-- have ends in the frame's number, and a spare in its first byte.
use Rattle.std.specs.Prelude.{ℕ, ◌+◌, cond, List, [], ◌∷◌, map, eqb}
use Rattle.layout.specs.Column.{Column, size}
use Rattle.pedr_layout.specs.Layout.{◌u1, ◌u2, ◌u4, ◌i2, ◌u1×◌, ◌u2×◌}

-- the indices of the block's first byte and of the one after its last
abbrev pub block_start : ℕ
block_start = 508

abbrev pub block_end : ℕ
block_end = 536

-- a column that its appendix names, or one that it calls SPARE, whose bytes are carried: whatever type the appendix gives a spare, it stands here as bytes
pub data BlockColumn : Type 0 where
  named : Column → BlockColumn
  spare : Column → BlockColumn

-- all columns of a layout, those with a name, and the spare ones
abbrev pub column_of : BlockColumn → Column
column_of (named c) = c
column_of (spare c) = c

abbrev pub columns_in : List BlockColumn → List Column
columns_in l = map column_of l

abbrev pub named_in : List BlockColumn → List Column
named_in [] = []
named_in (named c ∷ l) = c ∷ named_in l
named_in (spare c ∷ l) = named_in l

abbrev pub carried_in : List BlockColumn → List Column
carried_in [] = []
carried_in (named c ∷ l) = carried_in l
carried_in (spare c ∷ l) = c ∷ carried_in l

-- how many bytes columns have, and how many of a layout are carried
abbrev pub sizes : List Column → ℕ
sizes [] = 0
sizes (c ∷ cs) = size c + sizes cs

abbrev pub carried_size : List BlockColumn → ℕ
carried_size l = sizes (carried_in l)

-- ---- frame 1, appendix C.3

abbrev pub computer_memory_temperature : Column
computer_memory_temperature = 509 i2

abbrev pub computer_cpu_temperature : Column
computer_cpu_temperature = 511 i2

abbrev pub power_supply_temperature : Column
power_supply_temperature = 513 i2

abbrev pub computer_io_temperature : Column
computer_io_temperature = 515 i2

abbrev pub laser_diode_array_temperature : Column
laser_diode_array_temperature = 517 i2

abbrev pub laser_diode_drive_elecs_temp : Column
laser_diode_drive_elecs_temp = 519 i2

abbrev pub optical_test_source_led_temp : Column
optical_test_source_led_temp = 521 i2

abbrev pub hundred_mhz_oscillator_temp : Column
hundred_mhz_oscillator_temp = 523 i2

abbrev pub start_detector_temperature : Column
start_detector_temperature = 525 i2

abbrev pub outside_detector_housing_temp : Column
outside_detector_housing_temp = 527 i2

abbrev pub lasr_radiatr_opp_opt_port_temp : Column
lasr_radiatr_opp_opt_port_temp = 529 i2

abbrev pub lser_radiator_output_port_temp : Column
lser_radiator_output_port_temp = 531 i2

abbrev pub interface_plate_hot_foot_temp : Column
interface_plate_hot_foot_temp = 533 i2

abbrev pub honeycomb_panel_temperature : Column
honeycomb_panel_temperature = 535 i2

abbrev pub frame1 : List BlockColumn
frame1 =
    named computer_memory_temperature ∷ named computer_cpu_temperature ∷ named power_supply_temperature ∷ named computer_io_temperature
    ∷ named laser_diode_array_temperature ∷ named laser_diode_drive_elecs_temp ∷ named optical_test_source_led_temp ∷ named hundred_mhz_oscillator_temp
    ∷ named start_detector_temperature ∷ named outside_detector_housing_temp ∷ named lasr_radiatr_opp_opt_port_temp ∷ named lser_radiator_output_port_temp
    ∷ named interface_plate_hot_foot_temp ∷ named honeycomb_panel_temperature ∷ []

-- ---- frame 2, appendix C.4

abbrev pub electronics_box_top_sc_thrmstr : Column
electronics_box_top_sc_thrmstr = 509 i2

abbrev pub laser_case_hot_foot_temp : Column
laser_case_hot_foot_temp = 511 i2

abbrev pub plus_28_volt_voltage_monitor : Column
plus_28_volt_voltage_monitor = 513 u2

abbrev pub reference_voltage_monitor : Column
reference_voltage_monitor = 515 u2

abbrev pub plus_12_volt_voltage_monitor : Column
plus_12_volt_voltage_monitor = 517 u2

abbrev pub plus_24_volt_voltage_monitor : Column
plus_24_volt_voltage_monitor = 519 u2

abbrev pub plus_5_volt_voltage_monitor : Column
plus_5_volt_voltage_monitor = 521 u2

abbrev pub minus_12_volt_voltage_monitor : Column
minus_12_volt_voltage_monitor = 523 u2

abbrev pub laser_thermal_current_monitor : Column
laser_thermal_current_monitor = 525 u2

abbrev pub minus_5_volt_voltage_monitor : Column
minus_5_volt_voltage_monitor = 527 u2

abbrev pub power_supply_current_monitor : Column
power_supply_current_monitor = 529 u2

abbrev pub high_voltage_monitor : Column
high_voltage_monitor = 531 u2

abbrev pub minus_12_volt_current_monitor : Column
minus_12_volt_current_monitor = 533 u2

abbrev pub plus_12_volt_current_monitor : Column
plus_12_volt_current_monitor = 535 u2

abbrev pub frame2 : List BlockColumn
frame2 =
    named electronics_box_top_sc_thrmstr ∷ named laser_case_hot_foot_temp ∷ named plus_28_volt_voltage_monitor ∷ named reference_voltage_monitor
    ∷ named plus_12_volt_voltage_monitor ∷ named plus_24_volt_voltage_monitor ∷ named plus_5_volt_voltage_monitor ∷ named minus_12_volt_voltage_monitor
    ∷ named laser_thermal_current_monitor ∷ named minus_5_volt_voltage_monitor ∷ named power_supply_current_monitor ∷ named high_voltage_monitor
    ∷ named minus_12_volt_current_monitor ∷ named plus_12_volt_current_monitor ∷ []

-- ---- frame 3, appendix C.5

abbrev pub minus_5_volt_current_monitor : Column
minus_5_volt_current_monitor = 509 u2

abbrev pub plus_5_volt_current_monitor : Column
plus_5_volt_current_monitor = 511 u2

abbrev pub current_status_register_value : Column
current_status_register_value = 513 u1

abbrev pub software_version_number : Column
software_version_number = 514 u1

abbrev pub flag_word : Column
flag_word = 515 u2

abbrev pub status_flags : Column
status_flags = 517 u2× 2

abbrev pub software_validity_checksum : Column
software_validity_checksum = 521 u2

abbrev pub received_command_count : Column
received_command_count = 523 u1

abbrev pub command_error_count : Column
command_error_count = 524 u1

abbrev pub transmitter_threshold_setting : Column
transmitter_threshold_setting = 525 u1

abbrev pub range_tracking_status : Column
range_tracking_status = 526 u1

abbrev pub spare527 : Column
spare527 = 527 u1× 2

abbrev pub range_gate_tracker_array_in3 : Column
range_gate_tracker_array_in3 = 529 u2× 4

abbrev pub frame3 : List BlockColumn
frame3 =
    named minus_5_volt_current_monitor ∷ named plus_5_volt_current_monitor ∷ named current_status_register_value ∷ named software_version_number ∷ named flag_word
    ∷ named status_flags ∷ named software_validity_checksum ∷ named received_command_count ∷ named command_error_count ∷ named transmitter_threshold_setting
    ∷ named range_tracking_status ∷ spare spare527 ∷ named range_gate_tracker_array_in3 ∷ []

-- ---- frame 4, appendix C.6

abbrev pub range_gate_tracker_array_in4 : Column
range_gate_tracker_array_in4 = 509 u2× 14

abbrev pub frame4 : List BlockColumn
frame4 =
    named range_gate_tracker_array_in4 ∷ []

-- ---- frame 5, appendix C.7

abbrev pub range_gate_tracker_array_in5 : Column
range_gate_tracker_array_in5 = 509 u2× 6

abbrev pub hstart_value_histogram_dump : Column
hstart_value_histogram_dump = 521 u4

abbrev pub spare525 : Column
spare525 = 525 u1× 4

abbrev pub valid_commands_received_count : Column
valid_commands_received_count = 529 u2

abbrev pub memory_dump_segment_in5 : Column
memory_dump_segment_in5 = 531 u2× 3

abbrev pub frame5 : List BlockColumn
frame5 =
    named range_gate_tracker_array_in5 ∷ named hstart_value_histogram_dump ∷ spare spare525 ∷ named valid_commands_received_count ∷ named memory_dump_segment_in5
    ∷ []

-- ---- frame 6, appendix C.8

abbrev pub memory_dump_segment_in6 : Column
memory_dump_segment_in6 = 509 u2× 5

abbrev pub command_echo : Column
command_echo = 519 u2× 8

abbrev pub packet_validity_checksum : Column
packet_validity_checksum = 535 u2

abbrev pub frame6 : List BlockColumn
frame6 =
    named memory_dump_segment_in6 ∷ named command_echo ∷ named packet_validity_checksum ∷ []

-- ---- frame 7, appendix C.9

abbrev pub ots_range : Column
ots_range = 509 u4

abbrev pub first_ch_received_energy : Column
first_ch_received_energy = 513 u4

abbrev pub spare517 : Column
spare517 = 517 u1× 4

abbrev pub ots_transmit_power : Column
ots_transmit_power = 521 u4

abbrev pub ots_pulse_width : Column
ots_pulse_width = 525 u1

abbrev pub ots_pulse_amplitude : Column
ots_pulse_amplitude = 526 u1

abbrev pub ots_qual_flag : Column
ots_qual_flag = 527 u1

abbrev pub packet_type : Column
packet_type = 528 u1

abbrev pub areocentric_longitude_of_sun : Column
areocentric_longitude_of_sun = 529 u2

abbrev pub spare531 : Column
spare531 = 531 u1× 6

abbrev pub frame7 : List BlockColumn
frame7 =
    named ots_range ∷ named first_ch_received_energy ∷ spare spare517 ∷ named ots_transmit_power ∷ named ots_pulse_width ∷ named ots_pulse_amplitude
    ∷ named ots_qual_flag ∷ named packet_type ∷ named areocentric_longitude_of_sun ∷ spare spare531 ∷ []

-- ---- by the frame index

-- one of seven by the frame index; an index that is none of 1 to 6 takes the seventh
abbrev pub by_frame : {A : Type 0} → ℕ → A → A → A → A → A → A → A → A
by_frame n a b c d e f g =
    cond (eqb n 1) a (cond (eqb n 2) b (cond (eqb n 3) c (cond (eqb n 4) d (cond (eqb n 5) e (cond (eqb n 6) f g)))))

abbrev pub frame_layout : ℕ → List BlockColumn
frame_layout n = by_frame n frame1 frame2 frame3 frame4 frame5 frame6 frame7

-- the seven layouts
abbrev pub frames : List (List BlockColumn)
frames = frame_layout 1 ∷ frame_layout 2 ∷ frame_layout 3 ∷ frame_layout 4 ∷ frame_layout 5 ∷ frame_layout 6 ∷ frame_layout 7 ∷ []

-- the most carried bytes of a frame
abbrev pub carried_most : ℕ
carried_most = carried_size frame7
