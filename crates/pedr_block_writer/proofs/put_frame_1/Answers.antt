-- The temperatures, by their types what the machine holds.
use mathlib.Core.Path.{refl}
use mir.Syntax.{w16}
use mir.ValLaws.{to_z-of_z}
use borrow.Author.Rules.{rules}
use Rattle.octets.specs.Table.{octets_of_all}
use Rattle.pedr_block_writer.proofs.put_frame_1.Goals as goal

pub returns : goal.returns
unfolding octets_of_all
returns c =
    let f = c.args.fields in
    let stored =
    rw (
      to_z-of_z w16 f.computer_memory_temperature (search rules),
      to_z-of_z w16 f.computer_cpu_temperature (search rules),
      to_z-of_z w16 f.power_supply_temperature (search rules),
      to_z-of_z w16 f.computer_io_temperature (search rules),
      to_z-of_z w16 f.laser_diode_array_temperature (search rules),
      to_z-of_z w16 f.laser_diode_drive_elecs_temp (search rules),
      to_z-of_z w16 f.optical_test_source_led_temp (search rules),
      to_z-of_z w16 f.hundred_mhz_oscillator_temp (search rules),
      to_z-of_z w16 f.start_detector_temperature (search rules),
      to_z-of_z w16 f.outside_detector_housing_temp (search rules),
      to_z-of_z w16 f.lasr_radiatr_opp_opt_port_temp (search rules),
      to_z-of_z w16 f.lser_radiator_output_port_temp (search rules),
      to_z-of_z w16 f.interface_plate_hot_foot_temp (search rules),
      to_z-of_z w16 f.honeycomb_panel_temperature (search rules),
    ) at c.write_run.ensures in
    (stored, refl)
