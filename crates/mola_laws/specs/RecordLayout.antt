-- The structs of a PEDR record, which other languages share with the exported functions, as C lays them out.
use Rattle.std.specs.Prelude.{List, [], ◌∷◌}
use Rattle.pedr_flags.specs.declared.Quality.{Quality}
use Rattle.pedr_flags.specs.declared.Descriptor.{Descriptor}
use Rattle.pedr_flags.specs.declared.Encoder.{Encoder}
use Rattle.pedr_flags.specs.declared.ShotFailures.{ShotFailures}
use Rattle.pedr_fields.specs.declared.FrameTime.{FrameTime}
use Rattle.pedr_fields.specs.declared.OrbitPosition.{OrbitPosition}
use Rattle.pedr_fields.specs.declared.Pointing.{Pointing}
use Rattle.pedr_fields.specs.declared.Ranges.{Ranges}
use Rattle.pedr_fields.specs.declared.Receiver.{Receiver}
use Rattle.pedr_fields.specs.declared.PacketLink.{PacketLink}
use Rattle.pedr_fields.specs.declared.RecordFields.{RecordFields}
use Rattle.pedr_block.specs.declared.Frame1Fields.{Frame1Fields}
use Rattle.pedr_block.specs.declared.Frame2Fields.{Frame2Fields}
use Rattle.pedr_block.specs.declared.Frame3Fields.{Frame3Fields}
use Rattle.pedr_block.specs.declared.Frame5Fields.{Frame5Fields}
use Rattle.pedr_block.specs.declared.Frame6Fields.{Frame6Fields}
use Rattle.pedr_block.specs.declared.Frame7Fields.{Frame7Fields}
use Rattle.pedr_block_runs.specs.declared.BlockRuns.{BlockRuns}
use Rattle.pedr_block_c.specs.declared.BlockNumbers.{BlockNumbers}
use Rattle.pedr_arrays.specs.declared.ChannelArrays.{ChannelArrays}
use Rattle.pedr_c.specs.declared.ShotNumbers.{ShotNumbers}
use Rattle.pedr_c.specs.declared.ArrayNumbers.{ArrayNumbers}
use Rattle.pedr_c.specs.declared.RecordNumbers.{RecordNumbers}
use Rattle.pedr_shot_c.specs.declared.OneShot.{OneShot}
use Rattle.pedr_shot_c.specs.declared.ShotRead.{ShotRead}
use Rattle.pedr_flags.specs.contracts.Quality as In-quality
use Rattle.pedr_flags.specs.contracts.Descriptor as In-descriptor
use Rattle.pedr_flags.specs.contracts.Encoder as In-encoder
use Rattle.pedr_flags.specs.contracts.ShotFailures as In-failures
use Rattle.pedr_fields.specs.contracts.FrameTime as In-time
use Rattle.pedr_fields.specs.contracts.OrbitPosition as In-position
use Rattle.pedr_fields.specs.contracts.Pointing as In-pointing
use Rattle.pedr_fields.specs.contracts.Ranges as In-ranges
use Rattle.pedr_fields.specs.contracts.Receiver as In-receiver
use Rattle.pedr_fields.specs.contracts.PacketLink as In-link
use Rattle.pedr_fields.specs.contracts.RecordFields as In-fields
use Rattle.pedr_block.specs.contracts.Frame1Fields as In-frame-1
use Rattle.pedr_block.specs.contracts.Frame2Fields as In-frame-2
use Rattle.pedr_block.specs.contracts.Frame3Fields as In-frame-3
use Rattle.pedr_block.specs.contracts.Frame5Fields as In-frame-5
use Rattle.pedr_block.specs.contracts.Frame6Fields as In-frame-6
use Rattle.pedr_block.specs.contracts.Frame7Fields as In-frame-7
use Rattle.pedr_block_runs.specs.contracts.BlockRuns as In-runs
use Rattle.pedr_block_c.specs.contracts.BlockNumbers as In-block
use Rattle.pedr_arrays.specs.contracts.ChannelArrays as In-channels
use Rattle.pedr_c.specs.contracts.ShotNumbers as In-shots
use Rattle.pedr_c.specs.contracts.ArrayNumbers as In-arrays
use Rattle.pedr_c.specs.contracts.RecordNumbers as In-record
use Rattle.pedr_shot_c.specs.contracts.OneShot as In-shot
use Rattle.pedr_shot_c.specs.contracts.ShotRead as In-read
use Rattle.mola_laws.specs.Laid.{Field, u8, u16, u32, i16, i32, bool, ◌times◌, ◌at◌is◌, held, Laid}

-- ---- the fields

abbrev pub frame_time : List (Field FrameTime)
frame_time =
    i32 at 0 is (λ t. t.whole)
    ∷ i32 at 4 is (λ t. t.micros)
    ∷ []

abbrev pub orbit_position : List (Field OrbitPosition)
orbit_position =
    u32 at 0 is (λ p. p.orbit)
    ∷ i32 at 4 is (λ p. p.latitude)
    ∷ i32 at 8 is (λ p. p.longitude)
    ∷ u32 at 12 is (λ p. p.radial_distance)
    ∷ i32 at 16 is (λ p. p.ground_latitude)
    ∷ i32 at 20 is (λ p. p.ground_longitude)
    ∷ []

abbrev pub quality : List (Field Quality)
quality =
    u32 at 0 is (λ q. q.good)
    ∷ u8 at 4 is (λ q. q.carried)
    ∷ u8 at 5 is (λ q. q.counter)
    ∷ []

abbrev pub descriptor : List (Field Descriptor)
descriptor =
    bool at 0 is (λ d. d.packet_sum)
    ∷ bool at 1 is (λ d. d.software_sum)
    ∷ bool at 2 is (λ d. d.mode)
    ∷ bool at 3 is (λ d. d.ots)
    ∷ u32 at 4 is (λ d. d.carried)
    ∷ []

abbrev pub pointing : List (Field Pointing)
pointing =
    i32 at 0 is (λ p. p.right_ascension)
    ∷ i32 at 4 is (λ p. p.declination)
    ∷ i32 at 8 is (λ p. p.twist)
    ∷ []

abbrev pub ranges : List (Field Ranges)
ranges =
    u32 at 0 is (λ r. r.mid_point_range)
    ∷ u32 at 4 is (λ r. r.frame_radius)
    ∷ u32 at 8 is (λ r. r.delay)
    ∷ u32 at 12 is (λ r. r.width)
    ∷ []

abbrev pub receiver : List (Field Receiver)
receiver =
    u16 at 0 is (λ r. r.channel_mask)
    ∷ u16 at 2 is (λ r. r.minimum_hits)
    ∷ u16 at 4 is (λ r. r.hit_count)
    ∷ u16 at 6 is (λ r. r.frame_counter)
    ∷ u16 at 8 is (λ r. r.trigger)
    ∷ u16 at 10 is (λ r. r.frame_index)
    ∷ []

abbrev pub packet_link : List (Field PacketLink)
packet_link =
    i32 at 0 is (λ l. l.seconds)
    ∷ i16 at 4 is (λ l. l.millis)
    ∷ u16 at 6 is (λ l. l.fine_time)
    ∷ []

abbrev pub record_fields : List (Field RecordFields)
record_fields =
    held In-time.the_type frame_time at 0 is (λ f. f.time)
    ∷ held In-position.the_type orbit_position at 8 is (λ f. f.position)
    ∷ held In-quality.the_type quality at 32 is (λ f. f.quality)
    ∷ held In-descriptor.the_type descriptor at 40 is (λ f. f.descriptor)
    ∷ held In-pointing.the_type pointing at 48 is (λ f. f.pointing)
    ∷ held In-ranges.the_type ranges at 60 is (λ f. f.ranges)
    ∷ held In-receiver.the_type receiver at 76 is (λ f. f.receiver)
    ∷ held In-link.the_type packet_link at 88 is (λ f. f.link)
    ∷ []

pub record FieldLayouts : Type 0 where
  pub time_laid : Laid In-time.the_type 8 4 frame_time
  pub position_laid : Laid In-position.the_type 24 4 orbit_position
  pub quality_laid : Laid In-quality.the_type 8 4 quality
  pub descriptor_laid : Laid In-descriptor.the_type 8 4 descriptor
  pub pointing_laid : Laid In-pointing.the_type 12 4 pointing
  pub ranges_laid : Laid In-ranges.the_type 16 4 ranges
  pub receiver_laid : Laid In-receiver.the_type 12 2 receiver
  pub link_laid : Laid In-link.the_type 8 4 packet_link
  pub fields_laid : Laid In-fields.the_type 96 4 record_fields

-- ---- the arrays

abbrev pub encoder : List (Field Encoder)
encoder =
    u8 at 0 is (λ e. e.start)
    ∷ u8 at 1 is (λ e. e.carried_low)
    ∷ u8 at 2 is (λ e. e.stop)
    ∷ u8 at 3 is (λ e. e.carried_high)
    ∷ []

abbrev pub failures : List (Field ShotFailures)
failures =
    bool at 0 is (λ f. f.power)
    ∷ bool at 1 is (λ f. f.energy)
    ∷ bool at 2 is (λ f. f.range)
    ∷ bool at 3 is (λ f. f.window)
    ∷ bool at 4 is (λ f. f.comparison)
    ∷ []

abbrev pub shot_numbers : List (Field ShotNumbers)
shot_numbers =
    20 times u32 at 0 is (λ s. s.radius)
    ∷ 20 times u16 at 80 is (λ s. s.energy)
    ∷ 20 times u16 at 120 is (λ s. s.reflectivity)
    ∷ 20 times u8 at 160 is (λ s. s.trigger_channel)
    ∷ 20 times u16 at 180 is (λ s. s.pulse_width)
    ∷ 20 times u16 at 220 is (λ s. s.optical_width)
    ∷ 20 times u16 at 260 is (λ s. s.laser_power)
    ∷ 20 times u16 at 300 is (λ s. s.class_number)
    ∷ 20 times (held In-encoder.the_type encoder) at 340 is (λ s. s.encoder)
    ∷ 20 times (held In-failures.the_type failures) at 420 is (λ s. s.failures)
    ∷ []

abbrev pub channel_arrays : List (Field ChannelArrays)
channel_arrays =
    8 times u32 at 0 is (λ c. c.noise)
    ∷ 8 times u16 at 32 is (λ c. c.thresholds)
    ∷ []

abbrev pub array_numbers : List (Field ArrayNumbers)
array_numbers =
    held In-shots.the_type shot_numbers at 0 is (λ a. a.shots)
    ∷ held In-channels.the_type channel_arrays at 520 is (λ a. a.channels)
    ∷ 3 times i32 at 568 is (λ a. a.xyz)
    ∷ 2 times u32 at 580 is (λ a. a.source_header)
    ∷ []

pub record ArrayLayouts : Type 0 where
  pub encoder_laid : Laid In-encoder.the_type 4 1 encoder
  pub failures_laid : Laid In-failures.the_type 5 1 failures
  pub shots_laid : Laid In-shots.the_type 520 4 shot_numbers
  pub channels_laid : Laid In-channels.the_type 48 4 channel_arrays
  pub arrays_laid : Laid In-arrays.the_type 588 4 array_numbers

-- ---- the engineering block

abbrev pub frame1_fields : List (Field Frame1Fields)
frame1_fields =
    i16 at 0 is (λ f. f.computer_memory_temperature)
    ∷ i16 at 2 is (λ f. f.computer_cpu_temperature)
    ∷ i16 at 4 is (λ f. f.power_supply_temperature)
    ∷ i16 at 6 is (λ f. f.computer_io_temperature)
    ∷ i16 at 8 is (λ f. f.laser_diode_array_temperature)
    ∷ i16 at 10 is (λ f. f.laser_diode_drive_elecs_temp)
    ∷ i16 at 12 is (λ f. f.optical_test_source_led_temp)
    ∷ i16 at 14 is (λ f. f.hundred_mhz_oscillator_temp)
    ∷ i16 at 16 is (λ f. f.start_detector_temperature)
    ∷ i16 at 18 is (λ f. f.outside_detector_housing_temp)
    ∷ i16 at 20 is (λ f. f.lasr_radiatr_opp_opt_port_temp)
    ∷ i16 at 22 is (λ f. f.lser_radiator_output_port_temp)
    ∷ i16 at 24 is (λ f. f.interface_plate_hot_foot_temp)
    ∷ i16 at 26 is (λ f. f.honeycomb_panel_temperature)
    ∷ []

abbrev pub frame2_fields : List (Field Frame2Fields)
frame2_fields =
    i16 at 0 is (λ f. f.electronics_box_top_sc_thrmstr)
    ∷ i16 at 2 is (λ f. f.laser_case_hot_foot_temp)
    ∷ u16 at 4 is (λ f. f.plus_28_volt_voltage_monitor)
    ∷ u16 at 6 is (λ f. f.reference_voltage_monitor)
    ∷ u16 at 8 is (λ f. f.plus_12_volt_voltage_monitor)
    ∷ u16 at 10 is (λ f. f.plus_24_volt_voltage_monitor)
    ∷ u16 at 12 is (λ f. f.plus_5_volt_voltage_monitor)
    ∷ u16 at 14 is (λ f. f.minus_12_volt_voltage_monitor)
    ∷ u16 at 16 is (λ f. f.laser_thermal_current_monitor)
    ∷ u16 at 18 is (λ f. f.minus_5_volt_voltage_monitor)
    ∷ u16 at 20 is (λ f. f.power_supply_current_monitor)
    ∷ u16 at 22 is (λ f. f.high_voltage_monitor)
    ∷ u16 at 24 is (λ f. f.minus_12_volt_current_monitor)
    ∷ u16 at 26 is (λ f. f.plus_12_volt_current_monitor)
    ∷ []

abbrev pub frame3_fields : List (Field Frame3Fields)
frame3_fields =
    u16 at 0 is (λ f. f.minus_5_volt_current_monitor)
    ∷ u16 at 2 is (λ f. f.plus_5_volt_current_monitor)
    ∷ u8 at 4 is (λ f. f.current_status_register_value)
    ∷ u8 at 5 is (λ f. f.software_version_number)
    ∷ u16 at 6 is (λ f. f.flag_word)
    ∷ u16 at 8 is (λ f. f.software_validity_checksum)
    ∷ u8 at 10 is (λ f. f.received_command_count)
    ∷ u8 at 11 is (λ f. f.command_error_count)
    ∷ u8 at 12 is (λ f. f.transmitter_threshold_setting)
    ∷ u8 at 13 is (λ f. f.range_tracking_status)
    ∷ []

abbrev pub frame5_fields : List (Field Frame5Fields)
frame5_fields =
    u32 at 0 is (λ f. f.hstart_value_histogram_dump)
    ∷ u16 at 4 is (λ f. f.valid_commands_received_count)
    ∷ []

abbrev pub frame6_fields : List (Field Frame6Fields)
frame6_fields =
    u16 at 0 is (λ f. f.packet_validity_checksum)
    ∷ []

abbrev pub frame7_fields : List (Field Frame7Fields)
frame7_fields =
    u32 at 0 is (λ f. f.ots_range)
    ∷ u32 at 4 is (λ f. f.first_ch_received_energy)
    ∷ u32 at 8 is (λ f. f.ots_transmit_power)
    ∷ u8 at 12 is (λ f. f.ots_pulse_width)
    ∷ u8 at 13 is (λ f. f.ots_pulse_amplitude)
    ∷ u8 at 14 is (λ f. f.ots_qual_flag)
    ∷ u8 at 15 is (λ f. f.packet_type)
    ∷ u16 at 16 is (λ f. f.areocentric_longitude_of_sun)
    ∷ []

abbrev pub block_numbers : List (Field BlockNumbers)
block_numbers =
    u32 at 0 is (λ b. b.frame)
    ∷ held In-frame-1.the_type frame1_fields at 4 is (λ b. b.frame_1)
    ∷ held In-frame-2.the_type frame2_fields at 32 is (λ b. b.frame_2)
    ∷ held In-frame-3.the_type frame3_fields at 60 is (λ b. b.frame_3)
    ∷ held In-frame-5.the_type frame5_fields at 76 is (λ b. b.frame_5)
    ∷ held In-frame-6.the_type frame6_fields at 84 is (λ b. b.frame_6)
    ∷ held In-frame-7.the_type frame7_fields at 88 is (λ b. b.frame_7)
    ∷ []

abbrev pub block_runs : List (Field BlockRuns)
block_runs =
    2 times u16 at 0 is (λ r. r.status_flags)
    ∷ 14 times u16 at 4 is (λ r. r.range_gate_tracker_array)
    ∷ 5 times u16 at 32 is (λ r. r.memory_dump_segment)
    ∷ 8 times u16 at 42 is (λ r. r.command_echo)
    ∷ []

pub record BlockLayouts : Type 0 where
  pub frame_1_laid : Laid In-frame-1.the_type 28 2 frame1_fields
  pub frame_2_laid : Laid In-frame-2.the_type 28 2 frame2_fields
  pub frame_3_laid : Laid In-frame-3.the_type 14 2 frame3_fields
  pub frame_5_laid : Laid In-frame-5.the_type 8 4 frame5_fields
  pub frame_6_laid : Laid In-frame-6.the_type 2 2 frame6_fields
  pub frame_7_laid : Laid In-frame-7.the_type 20 4 frame7_fields
  pub block_laid : Laid In-block.the_type 108 4 block_numbers
  pub runs_laid : Laid In-runs.the_type 58 2 block_runs

-- ---- what is read

abbrev pub record_numbers : List (Field RecordNumbers)
record_numbers =
    u32 at 0 is (λ r. r.refusal)
    ∷ held In-fields.the_type record_fields at 4 is (λ r. r.fields)
    ∷ held In-block.the_type block_numbers at 100 is (λ r. r.block)
    ∷ held In-arrays.the_type array_numbers at 208 is (λ r. r.arrays)
    ∷ held In-runs.the_type block_runs at 796 is (λ r. r.runs)
    ∷ 10 times u8 at 854 is (λ r. r.carried)
    ∷ 220 times u8 at 864 is (λ r. r.uninterpreted)
    ∷ []

abbrev pub one_shot : List (Field OneShot)
one_shot =
    u32 at 0 is (λ s. s.radius)
    ∷ u16 at 4 is (λ s. s.energy)
    ∷ u16 at 6 is (λ s. s.reflectivity)
    ∷ u8 at 8 is (λ s. s.trigger_channel)
    ∷ u16 at 10 is (λ s. s.pulse_width)
    ∷ u16 at 12 is (λ s. s.optical_width)
    ∷ u16 at 14 is (λ s. s.laser_power)
    ∷ u16 at 16 is (λ s. s.class_number)
    ∷ held In-encoder.the_type encoder at 18 is (λ s. s.encoder)
    ∷ bool at 22 is (λ s. s.good)
    ∷ held In-failures.the_type failures at 23 is (λ s. s.failures)
    ∷ []

abbrev pub shot_read : List (Field ShotRead)
shot_read =
    u32 at 0 is (λ r. r.refusal)
    ∷ held In-shot.the_type one_shot at 4 is (λ r. r.shot)
    ∷ []

pub record RecordLayouts : Type 0 where
  pub fields : FieldLayouts
  pub arrays : ArrayLayouts
  pub block : BlockLayouts
  pub record_laid : Laid In-record.the_type 1084 4 record_numbers
  pub shot_laid : Laid In-shot.the_type 28 4 one_shot
  pub shot_read_laid : Laid In-read.the_type 32 4 shot_read
