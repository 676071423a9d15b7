-- Field by field, each from its own read.
use mir.Syntax.{w16}
use Rattle.numbers.proofs.Ranges.{held}
use Rattle.pedr_block.specs.Frames.{frame1_of}
use Rattle.pedr_block.proofs.read_frame_1.Goals as goal

pub returns : goal.returns
unfolding frame1_of
returns c =
    λ i. record {
      computer_memory_temperature = held w16 c.i16_at.type_inv c.i16_at.ensures i;
      computer_cpu_temperature = held w16 c.i16_at-2.type_inv c.i16_at-2.ensures i;
      power_supply_temperature = held w16 c.i16_at-3.type_inv c.i16_at-3.ensures i;
      computer_io_temperature = held w16 c.i16_at-4.type_inv c.i16_at-4.ensures i;
      laser_diode_array_temperature = held w16 c.i16_at-5.type_inv c.i16_at-5.ensures i;
      laser_diode_drive_elecs_temp = held w16 c.i16_at-6.type_inv c.i16_at-6.ensures i;
      optical_test_source_led_temp = held w16 c.i16_at-7.type_inv c.i16_at-7.ensures i;
      hundred_mhz_oscillator_temp = held w16 c.i16_at-8.type_inv c.i16_at-8.ensures i;
      start_detector_temperature = held w16 c.i16_at-9.type_inv c.i16_at-9.ensures i;
      outside_detector_housing_temp = held w16 c.i16_at-10.type_inv c.i16_at-10.ensures i;
      lasr_radiatr_opp_opt_port_temp = held w16 c.i16_at-11.type_inv c.i16_at-11.ensures i;
      lser_radiator_output_port_temp = held w16 c.i16_at-12.type_inv c.i16_at-12.ensures i;
      interface_plate_hot_foot_temp = held w16 c.i16_at-13.type_inv c.i16_at-13.ensures i;
      honeycomb_panel_temperature = held w16 c.i16_at-14.type_inv c.i16_at-14.ensures i;
    }
