-- Column by column.
use Rattle.layout.proofs.Row.{◌▶◌}
use borrow.Author.Rules.{rules}
use Rattle.pedr_block_round_trip.proofs.Typed.{one_signed}
use Rattle.pedr_block_round_trip.proofs.type_frame_1.Goals as goal

pub returns : goal.returns
returns c =
    one_signed c.args.fields.computer_memory_temperature (search rules)
    ▶ one_signed c.args.fields.computer_cpu_temperature (search rules)
    ▶ one_signed c.args.fields.power_supply_temperature (search rules)
    ▶ one_signed c.args.fields.computer_io_temperature (search rules)
    ▶ one_signed c.args.fields.laser_diode_array_temperature (search rules)
    ▶ one_signed c.args.fields.laser_diode_drive_elecs_temp (search rules)
    ▶ one_signed c.args.fields.optical_test_source_led_temp (search rules)
    ▶ one_signed c.args.fields.hundred_mhz_oscillator_temp (search rules)
    ▶ one_signed c.args.fields.start_detector_temperature (search rules)
    ▶ one_signed c.args.fields.outside_detector_housing_temp (search rules)
    ▶ one_signed c.args.fields.lasr_radiatr_opp_opt_port_temp (search rules)
    ▶ one_signed c.args.fields.lser_radiator_output_port_temp (search rules)
    ▶ one_signed c.args.fields.interface_plate_hot_foot_temp (search rules)
    ▶ one_signed c.args.fields.honeycomb_panel_temperature (search rules)
    ▶ tt
