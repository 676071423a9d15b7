-- Column by column.
use Rattle.layout.proofs.Row.{◌▶◌}
use borrow.Author.Rules.{rules}
use Rattle.pedr_block_round_trip.proofs.Typed.{one, one_signed}
use Rattle.pedr_block_round_trip.proofs.type_frame_2.Goals as goal

pub returns : goal.returns
returns c =
    one_signed c.args.fields.electronics_box_top_sc_thrmstr (search rules)
    ▶ one_signed c.args.fields.laser_case_hot_foot_temp (search rules)
    ▶ one 2 c.args.fields.plus_28_volt_voltage_monitor (search rules)
    ▶ one 2 c.args.fields.reference_voltage_monitor (search rules)
    ▶ one 2 c.args.fields.plus_12_volt_voltage_monitor (search rules)
    ▶ one 2 c.args.fields.plus_24_volt_voltage_monitor (search rules)
    ▶ one 2 c.args.fields.plus_5_volt_voltage_monitor (search rules)
    ▶ one 2 c.args.fields.minus_12_volt_voltage_monitor (search rules)
    ▶ one 2 c.args.fields.laser_thermal_current_monitor (search rules)
    ▶ one 2 c.args.fields.minus_5_volt_voltage_monitor (search rules)
    ▶ one 2 c.args.fields.power_supply_current_monitor (search rules)
    ▶ one 2 c.args.fields.high_voltage_monitor (search rules)
    ▶ one 2 c.args.fields.minus_12_volt_current_monitor (search rules)
    ▶ one 2 c.args.fields.plus_12_volt_current_monitor (search rules)
    ▶ tt
