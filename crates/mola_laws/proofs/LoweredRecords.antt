-- The structs of a PEDR record, by what their values are lowered to.
use Rattle.std.specs.Prelude.{[], ◌∷◌}
use Rattle.pedr_flags.specs.declared.Quality.{Quality}
use Rattle.pedr_flags.specs.declared.Descriptor.{Descriptor}
use Rattle.pedr_flags.specs.declared.Encoder.{Encoder}
use Rattle.pedr_flags.specs.declared.ShotFailures.{ShotFailures}
use Rattle.pedr_fields.specs.declared.FrameTime.{FrameTime}
use Rattle.pedr_fields.specs.declared.OrbitPosition.{OrbitPosition}
use Rattle.pedr_fields.specs.declared.Pointing.{Pointing}
use Rattle.pedr_fields.specs.declared.Ranges.{Ranges}
use Rattle.pedr_fields.specs.declared.Receiver.{Receiver}
use Rattle.pedr_fields.specs.declared.PacketLink.{PacketLink}
use Rattle.pedr_fields.specs.declared.RecordFields.{RecordFields}
use Rattle.pedr_block.specs.declared.Frame1Fields.{Frame1Fields}
use Rattle.pedr_block.specs.declared.Frame2Fields.{Frame2Fields}
use Rattle.pedr_block.specs.declared.Frame3Fields.{Frame3Fields}
use Rattle.pedr_block.specs.declared.Frame5Fields.{Frame5Fields}
use Rattle.pedr_block.specs.declared.Frame6Fields.{Frame6Fields}
use Rattle.pedr_block.specs.declared.Frame7Fields.{Frame7Fields}
use Rattle.pedr_block_runs.specs.declared.BlockRuns.{BlockRuns}
use Rattle.pedr_block_c.specs.declared.BlockNumbers.{BlockNumbers}
use Rattle.pedr_arrays.specs.declared.ChannelArrays.{ChannelArrays}
use Rattle.pedr_c.specs.declared.ShotNumbers.{ShotNumbers}
use Rattle.pedr_c.specs.declared.ArrayNumbers.{ArrayNumbers}
use Rattle.pedr_c.specs.declared.RecordNumbers.{RecordNumbers}
use Rattle.pedr_shot_c.specs.declared.OneShot.{OneShot}
use Rattle.pedr_shot_c.specs.declared.ShotRead.{ShotRead}
use Rattle.pedr_flags.proofs.Quality.TheLaws as In-quality
use Rattle.pedr_flags.proofs.Descriptor.TheLaws as In-descriptor
use Rattle.pedr_flags.proofs.Encoder.TheLaws as In-encoder
use Rattle.pedr_flags.proofs.ShotFailures.TheLaws as In-failures
use Rattle.pedr_fields.proofs.FrameTime.TheLaws as In-time
use Rattle.pedr_fields.proofs.OrbitPosition.TheLaws as In-position
use Rattle.pedr_fields.proofs.Pointing.TheLaws as In-pointing
use Rattle.pedr_fields.proofs.Ranges.TheLaws as In-ranges
use Rattle.pedr_fields.proofs.Receiver.TheLaws as In-receiver
use Rattle.pedr_fields.proofs.PacketLink.TheLaws as In-link
use Rattle.pedr_fields.proofs.RecordFields.TheLaws as In-fields
use Rattle.pedr_block.proofs.Frame1Fields.TheLaws as In-frame-1
use Rattle.pedr_block.proofs.Frame2Fields.TheLaws as In-frame-2
use Rattle.pedr_block.proofs.Frame3Fields.TheLaws as In-frame-3
use Rattle.pedr_block.proofs.Frame5Fields.TheLaws as In-frame-5
use Rattle.pedr_block.proofs.Frame6Fields.TheLaws as In-frame-6
use Rattle.pedr_block.proofs.Frame7Fields.TheLaws as In-frame-7
use Rattle.pedr_block_runs.proofs.BlockRuns.TheLaws as In-runs
use Rattle.pedr_block_c.proofs.BlockNumbers.TheLaws as In-block
use Rattle.pedr_arrays.proofs.ChannelArrays.TheLaws as In-channels
use Rattle.pedr_c.proofs.ShotNumbers.TheLaws as In-shots
use Rattle.pedr_c.proofs.ArrayNumbers.TheLaws as In-arrays
use Rattle.pedr_c.proofs.RecordNumbers.TheLaws as In-record
use Rattle.pedr_shot_c.proofs.OneShot.TheLaws as In-shot
use Rattle.pedr_shot_c.proofs.ShotRead.TheLaws as In-read
use mathlib.Core.Path.{refl}
use Rattle.mola_laws.proofs.Lowered.{Laid}
use Rattle.mola_laws.specs.Laid.{Kind, u8, u16, u32, i16, i32, bool, ◌times◌, ◌at◌is◌}

-- ---- the fields

abbrev pub frame_time : Kind FrameTime
frame_time = record { type = In-time.mir; value = In-time.lowered }

abbrev pub orbit_position : Kind OrbitPosition
orbit_position = record { type = In-position.mir; value = In-position.lowered }

abbrev pub quality : Kind Quality
quality = record { type = In-quality.mir; value = In-quality.lowered }

abbrev pub descriptor : Kind Descriptor
descriptor = record { type = In-descriptor.mir; value = In-descriptor.lowered }

abbrev pub pointing : Kind Pointing
pointing = record { type = In-pointing.mir; value = In-pointing.lowered }

abbrev pub ranges : Kind Ranges
ranges = record { type = In-ranges.mir; value = In-ranges.lowered }

abbrev pub receiver : Kind Receiver
receiver = record { type = In-receiver.mir; value = In-receiver.lowered }

abbrev pub packet_link : Kind PacketLink
packet_link = record { type = In-link.mir; value = In-link.lowered }

abbrev pub record_fields : Kind RecordFields
record_fields = record { type = In-fields.mir; value = In-fields.lowered }

pub record FieldLayouts : Type 0 where
  pub time_laid : Laid frame_time 8 4 (
      i32 at 0 is (λ t. t.whole)
      ∷ i32 at 4 is (λ t. t.micros)
      ∷ [])
  pub position_laid : Laid orbit_position 24 4 (
      u32 at 0 is (λ p. p.orbit)
      ∷ i32 at 4 is (λ p. p.latitude)
      ∷ i32 at 8 is (λ p. p.longitude)
      ∷ u32 at 12 is (λ p. p.radial_distance)
      ∷ i32 at 16 is (λ p. p.ground_latitude)
      ∷ i32 at 20 is (λ p. p.ground_longitude)
      ∷ [])
  pub quality_laid : Laid quality 8 4 (
      u32 at 0 is (λ q. q.good)
      ∷ u8 at 4 is (λ q. q.carried)
      ∷ u8 at 5 is (λ q. q.counter)
      ∷ [])
  pub descriptor_laid : Laid descriptor 8 4 (
      bool at 0 is (λ d. d.packet_sum)
      ∷ bool at 1 is (λ d. d.software_sum)
      ∷ bool at 2 is (λ d. d.mode)
      ∷ bool at 3 is (λ d. d.ots)
      ∷ u32 at 4 is (λ d. d.carried)
      ∷ [])
  pub pointing_laid : Laid pointing 12 4 (
      i32 at 0 is (λ p. p.right_ascension)
      ∷ i32 at 4 is (λ p. p.declination)
      ∷ i32 at 8 is (λ p. p.twist)
      ∷ [])
  pub ranges_laid : Laid ranges 16 4 (
      u32 at 0 is (λ r. r.mid_point_range)
      ∷ u32 at 4 is (λ r. r.frame_radius)
      ∷ u32 at 8 is (λ r. r.delay)
      ∷ u32 at 12 is (λ r. r.width)
      ∷ [])
  pub receiver_laid : Laid receiver 12 2 (
      u16 at 0 is (λ r. r.channel_mask)
      ∷ u16 at 2 is (λ r. r.minimum_hits)
      ∷ u16 at 4 is (λ r. r.hit_count)
      ∷ u16 at 6 is (λ r. r.frame_counter)
      ∷ u16 at 8 is (λ r. r.trigger)
      ∷ u16 at 10 is (λ r. r.frame_index)
      ∷ [])
  pub link_laid : Laid packet_link 8 4 (
      i32 at 0 is (λ l. l.seconds)
      ∷ i16 at 4 is (λ l. l.millis)
      ∷ u16 at 6 is (λ l. l.fine_time)
      ∷ [])
  pub fields_laid : Laid record_fields 96 4 (
      frame_time at 0 is (λ f. f.time)
      ∷ orbit_position at 8 is (λ f. f.position)
      ∷ quality at 32 is (λ f. f.quality)
      ∷ descriptor at 40 is (λ f. f.descriptor)
      ∷ pointing at 48 is (λ f. f.pointing)
      ∷ ranges at 60 is (λ f. f.ranges)
      ∷ receiver at 76 is (λ f. f.receiver)
      ∷ packet_link at 88 is (λ f. f.link)
      ∷ [])

-- ---- the arrays

abbrev pub encoder : Kind Encoder
encoder = record { type = In-encoder.mir; value = In-encoder.lowered }

abbrev pub failures : Kind ShotFailures
failures = record { type = In-failures.mir; value = In-failures.lowered }

abbrev pub shot_numbers : Kind ShotNumbers
shot_numbers = record { type = In-shots.mir; value = In-shots.lowered }

abbrev pub channel_arrays : Kind ChannelArrays
channel_arrays = record { type = In-channels.mir; value = In-channels.lowered }

abbrev pub array_numbers : Kind ArrayNumbers
array_numbers = record { type = In-arrays.mir; value = In-arrays.lowered }

pub record ArrayLayouts : Type 0 where
  pub encoder_laid : Laid encoder 4 1 (
      u8 at 0 is (λ e. e.start)
      ∷ u8 at 1 is (λ e. e.carried_low)
      ∷ u8 at 2 is (λ e. e.stop)
      ∷ u8 at 3 is (λ e. e.carried_high)
      ∷ [])
  pub failures_laid : Laid failures 5 1 (
      bool at 0 is (λ f. f.power)
      ∷ bool at 1 is (λ f. f.energy)
      ∷ bool at 2 is (λ f. f.range)
      ∷ bool at 3 is (λ f. f.window)
      ∷ bool at 4 is (λ f. f.comparison)
      ∷ [])
  pub shots_laid : Laid shot_numbers 520 4 (
      20 times u32 at 0 is (λ s. s.radius)
      ∷ 20 times u16 at 80 is (λ s. s.energy)
      ∷ 20 times u16 at 120 is (λ s. s.reflectivity)
      ∷ 20 times u8 at 160 is (λ s. s.trigger_channel)
      ∷ 20 times u16 at 180 is (λ s. s.pulse_width)
      ∷ 20 times u16 at 220 is (λ s. s.optical_width)
      ∷ 20 times u16 at 260 is (λ s. s.laser_power)
      ∷ 20 times u16 at 300 is (λ s. s.class_number)
      ∷ 20 times encoder at 340 is (λ s. s.encoder)
      ∷ 20 times failures at 420 is (λ s. s.failures)
      ∷ [])
  pub channels_laid : Laid channel_arrays 48 4 (
      8 times u32 at 0 is (λ c. c.noise)
      ∷ 8 times u16 at 32 is (λ c. c.thresholds)
      ∷ [])
  pub arrays_laid : Laid array_numbers 588 4 (
      shot_numbers at 0 is (λ a. a.shots)
      ∷ channel_arrays at 520 is (λ a. a.channels)
      ∷ 3 times i32 at 568 is (λ a. a.xyz)
      ∷ 2 times u32 at 580 is (λ a. a.source_header)
      ∷ [])

-- ---- the engineering block

abbrev pub frame1_fields : Kind Frame1Fields
frame1_fields = record { type = In-frame-1.mir; value = In-frame-1.lowered }

abbrev pub frame2_fields : Kind Frame2Fields
frame2_fields = record { type = In-frame-2.mir; value = In-frame-2.lowered }

abbrev pub frame3_fields : Kind Frame3Fields
frame3_fields = record { type = In-frame-3.mir; value = In-frame-3.lowered }

abbrev pub frame5_fields : Kind Frame5Fields
frame5_fields = record { type = In-frame-5.mir; value = In-frame-5.lowered }

abbrev pub frame6_fields : Kind Frame6Fields
frame6_fields = record { type = In-frame-6.mir; value = In-frame-6.lowered }

abbrev pub frame7_fields : Kind Frame7Fields
frame7_fields = record { type = In-frame-7.mir; value = In-frame-7.lowered }

abbrev pub block_numbers : Kind BlockNumbers
block_numbers = record { type = In-block.mir; value = In-block.lowered }

abbrev pub block_runs : Kind BlockRuns
block_runs = record { type = In-runs.mir; value = In-runs.lowered }

pub record BlockLayouts : Type 0 where
  pub frame_1_laid : Laid frame1_fields 28 2 (
      i16 at 0 is (λ f. f.computer_memory_temperature)
      ∷ i16 at 2 is (λ f. f.computer_cpu_temperature)
      ∷ i16 at 4 is (λ f. f.power_supply_temperature)
      ∷ i16 at 6 is (λ f. f.computer_io_temperature)
      ∷ i16 at 8 is (λ f. f.laser_diode_array_temperature)
      ∷ i16 at 10 is (λ f. f.laser_diode_drive_elecs_temp)
      ∷ i16 at 12 is (λ f. f.optical_test_source_led_temp)
      ∷ i16 at 14 is (λ f. f.hundred_mhz_oscillator_temp)
      ∷ i16 at 16 is (λ f. f.start_detector_temperature)
      ∷ i16 at 18 is (λ f. f.outside_detector_housing_temp)
      ∷ i16 at 20 is (λ f. f.lasr_radiatr_opp_opt_port_temp)
      ∷ i16 at 22 is (λ f. f.lser_radiator_output_port_temp)
      ∷ i16 at 24 is (λ f. f.interface_plate_hot_foot_temp)
      ∷ i16 at 26 is (λ f. f.honeycomb_panel_temperature)
      ∷ [])
  pub frame_2_laid : Laid frame2_fields 28 2 (
      i16 at 0 is (λ f. f.electronics_box_top_sc_thrmstr)
      ∷ i16 at 2 is (λ f. f.laser_case_hot_foot_temp)
      ∷ u16 at 4 is (λ f. f.plus_28_volt_voltage_monitor)
      ∷ u16 at 6 is (λ f. f.reference_voltage_monitor)
      ∷ u16 at 8 is (λ f. f.plus_12_volt_voltage_monitor)
      ∷ u16 at 10 is (λ f. f.plus_24_volt_voltage_monitor)
      ∷ u16 at 12 is (λ f. f.plus_5_volt_voltage_monitor)
      ∷ u16 at 14 is (λ f. f.minus_12_volt_voltage_monitor)
      ∷ u16 at 16 is (λ f. f.laser_thermal_current_monitor)
      ∷ u16 at 18 is (λ f. f.minus_5_volt_voltage_monitor)
      ∷ u16 at 20 is (λ f. f.power_supply_current_monitor)
      ∷ u16 at 22 is (λ f. f.high_voltage_monitor)
      ∷ u16 at 24 is (λ f. f.minus_12_volt_current_monitor)
      ∷ u16 at 26 is (λ f. f.plus_12_volt_current_monitor)
      ∷ [])
  pub frame_3_laid : Laid frame3_fields 14 2 (
      u16 at 0 is (λ f. f.minus_5_volt_current_monitor)
      ∷ u16 at 2 is (λ f. f.plus_5_volt_current_monitor)
      ∷ u8 at 4 is (λ f. f.current_status_register_value)
      ∷ u8 at 5 is (λ f. f.software_version_number)
      ∷ u16 at 6 is (λ f. f.flag_word)
      ∷ u16 at 8 is (λ f. f.software_validity_checksum)
      ∷ u8 at 10 is (λ f. f.received_command_count)
      ∷ u8 at 11 is (λ f. f.command_error_count)
      ∷ u8 at 12 is (λ f. f.transmitter_threshold_setting)
      ∷ u8 at 13 is (λ f. f.range_tracking_status)
      ∷ [])
  pub frame_5_laid : Laid frame5_fields 8 4 (
      u32 at 0 is (λ f. f.hstart_value_histogram_dump)
      ∷ u16 at 4 is (λ f. f.valid_commands_received_count)
      ∷ [])
  pub frame_6_laid : Laid frame6_fields 2 2 (
      u16 at 0 is (λ f. f.packet_validity_checksum)
      ∷ [])
  pub frame_7_laid : Laid frame7_fields 20 4 (
      u32 at 0 is (λ f. f.ots_range)
      ∷ u32 at 4 is (λ f. f.first_ch_received_energy)
      ∷ u32 at 8 is (λ f. f.ots_transmit_power)
      ∷ u8 at 12 is (λ f. f.ots_pulse_width)
      ∷ u8 at 13 is (λ f. f.ots_pulse_amplitude)
      ∷ u8 at 14 is (λ f. f.ots_qual_flag)
      ∷ u8 at 15 is (λ f. f.packet_type)
      ∷ u16 at 16 is (λ f. f.areocentric_longitude_of_sun)
      ∷ [])
  pub block_laid : Laid block_numbers 108 4 (
      u32 at 0 is (λ b. b.frame)
      ∷ frame1_fields at 4 is (λ b. b.frame_1)
      ∷ frame2_fields at 32 is (λ b. b.frame_2)
      ∷ frame3_fields at 60 is (λ b. b.frame_3)
      ∷ frame5_fields at 76 is (λ b. b.frame_5)
      ∷ frame6_fields at 84 is (λ b. b.frame_6)
      ∷ frame7_fields at 88 is (λ b. b.frame_7)
      ∷ [])
  pub runs_laid : Laid block_runs 58 2 (
      2 times u16 at 0 is (λ r. r.status_flags)
      ∷ 14 times u16 at 4 is (λ r. r.range_gate_tracker_array)
      ∷ 5 times u16 at 32 is (λ r. r.memory_dump_segment)
      ∷ 8 times u16 at 42 is (λ r. r.command_echo)
      ∷ [])

-- ---- what is read

abbrev pub record_numbers : Kind RecordNumbers
record_numbers = record { type = In-record.mir; value = In-record.lowered }

abbrev pub one_shot : Kind OneShot
one_shot = record { type = In-shot.mir; value = In-shot.lowered }

abbrev pub shot_read : Kind ShotRead
shot_read = record { type = In-read.mir; value = In-read.lowered }

pub record RecordLayouts : Type 0 where
  pub fields : FieldLayouts
  pub arrays : ArrayLayouts
  pub block : BlockLayouts
  pub record_laid : Laid record_numbers 1084 4 (
      u32 at 0 is (λ r. r.refusal)
      ∷ record_fields at 4 is (λ r. r.fields)
      ∷ block_numbers at 100 is (λ r. r.block)
      ∷ array_numbers at 208 is (λ r. r.arrays)
      ∷ block_runs at 796 is (λ r. r.runs)
      ∷ 10 times u8 at 854 is (λ r. r.carried)
      ∷ 220 times u8 at 864 is (λ r. r.uninterpreted)
      ∷ [])
  pub shot_laid : Laid one_shot 28 4 (
      u32 at 0 is (λ s. s.radius)
      ∷ u16 at 4 is (λ s. s.energy)
      ∷ u16 at 6 is (λ s. s.reflectivity)
      ∷ u8 at 8 is (λ s. s.trigger_channel)
      ∷ u16 at 10 is (λ s. s.pulse_width)
      ∷ u16 at 12 is (λ s. s.optical_width)
      ∷ u16 at 14 is (λ s. s.laser_power)
      ∷ u16 at 16 is (λ s. s.class_number)
      ∷ encoder at 18 is (λ s. s.encoder)
      ∷ bool at 22 is (λ s. s.good)
      ∷ failures at 23 is (λ s. s.failures)
      ∷ [])
  pub shot_read_laid : Laid shot_read 32 4 (
      u32 at 0 is (λ r. r.refusal)
      ∷ one_shot at 4 is (λ r. r.shot)
      ∷ [])

pub field_layouts : FieldLayouts
field_layouts = record {
  time_laid = record { sized = refl; aligned = refl; placed = refl; valued = λ s. refl };
  position_laid = record { sized = refl; aligned = refl; placed = refl; valued = λ s. refl };
  quality_laid = record { sized = refl; aligned = refl; placed = refl; valued = λ s. refl };
  descriptor_laid = record { sized = refl; aligned = refl; placed = refl; valued = λ s. refl };
  pointing_laid = record { sized = refl; aligned = refl; placed = refl; valued = λ s. refl };
  ranges_laid = record { sized = refl; aligned = refl; placed = refl; valued = λ s. refl };
  receiver_laid = record { sized = refl; aligned = refl; placed = refl; valued = λ s. refl };
  link_laid = record { sized = refl; aligned = refl; placed = refl; valued = λ s. refl };
  fields_laid = record { sized = refl; aligned = refl; placed = refl; valued = λ s. refl };
}

pub array_layouts : ArrayLayouts
array_layouts = record {
  encoder_laid = record { sized = refl; aligned = refl; placed = refl; valued = λ s. refl };
  failures_laid = record { sized = refl; aligned = refl; placed = refl; valued = λ s. refl };
  shots_laid = record { sized = refl; aligned = refl; placed = refl; valued = λ s. refl };
  channels_laid = record { sized = refl; aligned = refl; placed = refl; valued = λ s. refl };
  arrays_laid = record { sized = refl; aligned = refl; placed = refl; valued = λ s. refl };
}

pub block_layouts : BlockLayouts
block_layouts = record {
  frame_1_laid = record { sized = refl; aligned = refl; placed = refl; valued = λ s. refl };
  frame_2_laid = record { sized = refl; aligned = refl; placed = refl; valued = λ s. refl };
  frame_3_laid = record { sized = refl; aligned = refl; placed = refl; valued = λ s. refl };
  frame_5_laid = record { sized = refl; aligned = refl; placed = refl; valued = λ s. refl };
  frame_6_laid = record { sized = refl; aligned = refl; placed = refl; valued = λ s. refl };
  frame_7_laid = record { sized = refl; aligned = refl; placed = refl; valued = λ s. refl };
  block_laid = record { sized = refl; aligned = refl; placed = refl; valued = λ s. refl };
  runs_laid = record { sized = refl; aligned = refl; placed = refl; valued = λ s. refl };
}

pub record_layouts : RecordLayouts
record_layouts = record {
  fields = field_layouts;
  arrays = array_layouts;
  block = block_layouts;
  record_laid = record { sized = refl; aligned = refl; placed = refl; valued = λ s. refl };
  shot_laid = record { sized = refl; aligned = refl; placed = refl; valued = λ s. refl };
  shot_read_laid = record { sized = refl; aligned = refl; placed = refl; valued = λ s. refl };
}
