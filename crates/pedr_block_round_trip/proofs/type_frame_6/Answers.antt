-- Column by column.
use Prim.Native.Nat.{ℕ}
use mathlib.Core.Path.{◌≡◌}
use native.Mathlib.Omega.{arith}
use lib.ListN.{length, get_or}
use mir.Syntax.{w16}
use mir.Val.{Fits}
use Rattle.layout.proofs.Row.{◌▶◌}
use borrow.Author.Rules.{rules}
use Rattle.pedr_block_round_trip.proofs.Typed.{one, items}
use Rattle.pedr_block_round_trip.proofs.type_frame_6.Goals as goal

-- the array's length and numbers, by its type
dump : (s : goal.Start) → (length s.args.dump ≡ 5) × ((k : ℕ) → Fits w16 (get_or s.args.dump k 0))
dump s = (search rules, λ k. search rules)

-- the array's length and numbers, by its type
echo : (s : goal.Start) → (length s.args.echo ≡ 8) × ((k : ℕ) → Fits w16 (get_or s.args.echo k 0))
echo s = (search rules, λ k. search rules)

pub returns : goal.returns
returns c =
    let dump_is = dump c in
    let echo_is = echo c in
    items 5 c.args.dump (omega (arith, dump_is.0)) (λ k. (dump_is.1 k).fits)
    ▶ items 8 c.args.echo (omega (arith, echo_is.0)) (λ k. (echo_is.1 k).fits)
    ▶ one 2 c.args.fields.packet_validity_checksum (search rules)
    ▶ tt
