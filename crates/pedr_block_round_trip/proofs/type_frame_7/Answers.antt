-- Column by column.
use Rattle.layout.proofs.Row.{◌▶◌}
use borrow.Author.Rules.{rules}
use Rattle.pedr_block_round_trip.proofs.Typed.{one, bytes}
use Rattle.pedr_block_round_trip.proofs.type_frame_7.Goals as goal

pub returns : goal.returns
returns c =
    one 4 c.args.fields.ots_range (search rules)
    ▶ one 4 c.args.fields.first_ch_received_energy (search rules)
    ▶ bytes c.args.carried.now 0 4 (λ k. (c.type_inv.carried k).fits)
    ▶ one 4 c.args.fields.ots_transmit_power (search rules)
    ▶ one 1 c.args.fields.ots_pulse_width (search rules)
    ▶ one 1 c.args.fields.ots_pulse_amplitude (search rules)
    ▶ one 1 c.args.fields.ots_qual_flag (search rules)
    ▶ one 1 c.args.fields.packet_type (search rules)
    ▶ one 2 c.args.fields.areocentric_longitude_of_sun (search rules)
    ▶ bytes c.args.carried.now 4 6 (λ k. (c.type_inv.carried k).fits)
    ▶ tt
