-- Column by column.
use Prim.Native.Nat.{ℕ}
use mathlib.Core.Path.{◌≡◌}
use native.Mathlib.Omega.{arith}
use lib.ListN.{length, get_or}
use mir.Syntax.{w16}
use mir.Val.{Fits}
use Rattle.layout.proofs.Row.{◌▶◌}
use borrow.Author.Rules.{rules}
use Rattle.pedr_block_round_trip.proofs.Typed.{one, items, bytes}
use Rattle.pedr_block_round_trip.proofs.type_frame_5.Goals as goal

-- the array's length and numbers, by its type
tracker : (s : goal.After-u8_at) → (length s.args.tracker ≡ 14) × ((k : ℕ) → Fits w16 (get_or s.args.tracker k 0))
tracker s = (search rules, λ k. search rules)

-- the array's length and numbers, by its type
dump : (s : goal.After-u8_at) → (length s.args.dump ≡ 5) × ((k : ℕ) → Fits w16 (get_or s.args.dump k 0))
dump s = (search rules, λ k. search rules)

pub returns : goal.returns
returns c =
    let tracker_is = tracker c in
    let dump_is = dump c in
    items 6 c.args.tracker (omega (arith, tracker_is.0)) (λ k. (tracker_is.1 k).fits)
    ▶ one 4 c.args.fields.hstart_value_histogram_dump (search rules)
    ▶ bytes c.args.carried.now 0 4 (λ k. (c.type_inv.carried k).fits)
    ▶ one 2 c.args.fields.valid_commands_received_count (search rules)
    ▶ items 3 c.args.dump (omega (arith, dump_is.0)) (λ k. (dump_is.1 k).fits)
    ▶ tt
