-- Column by column.
use Prim.Native.Nat.{ℕ}
use mathlib.Core.Path.{◌≡◌}
use native.Mathlib.Omega.{arith}
use lib.ListN.{length, get_or}
use mir.Syntax.{w16}
use mir.Val.{Fits}
use Rattle.layout.proofs.Row.{◌▶◌}
use borrow.Author.Rules.{rules}
use Rattle.pedr_block_round_trip.proofs.Typed.{one, items, bytes}
use Rattle.pedr_block_round_trip.proofs.type_frame_3.Goals as goal

-- the array's length and numbers, by its type
flags : (s : goal.After-u8_at) → (length s.args.flags ≡ 2) × ((k : ℕ) → Fits w16 (get_or s.args.flags k 0))
flags s = (search rules, λ k. search rules)

-- the array's length and numbers, by its type
tracker : (s : goal.After-u8_at) → (length s.args.tracker ≡ 14) × ((k : ℕ) → Fits w16 (get_or s.args.tracker k 0))
tracker s = (search rules, λ k. search rules)

pub returns : goal.returns
returns c =
    let flags_is = flags c in
    let tracker_is = tracker c in
    one 2 c.args.fields.minus_5_volt_current_monitor (search rules)
    ▶ one 2 c.args.fields.plus_5_volt_current_monitor (search rules)
    ▶ one 1 c.args.fields.current_status_register_value (search rules)
    ▶ one 1 c.args.fields.software_version_number (search rules)
    ▶ one 2 c.args.fields.flag_word (search rules)
    ▶ items 2 c.args.flags (omega (arith, flags_is.0)) (λ k. (flags_is.1 k).fits)
    ▶ one 2 c.args.fields.software_validity_checksum (search rules)
    ▶ one 1 c.args.fields.received_command_count (search rules)
    ▶ one 1 c.args.fields.command_error_count (search rules)
    ▶ one 1 c.args.fields.transmitter_threshold_setting (search rules)
    ▶ one 1 c.args.fields.range_tracking_status (search rules)
    ▶ bytes c.args.carried.now 0 2 (λ k. (c.type_inv.carried k).fits)
    ▶ items 4 c.args.tracker (omega (arith, tracker_is.0)) (λ k. (tracker_is.1 k).fits)
    ▶ tt
