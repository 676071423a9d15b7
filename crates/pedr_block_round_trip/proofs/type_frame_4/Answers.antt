-- Column by column.
use Prim.Native.Nat.{ℕ}
use mathlib.Core.Path.{◌≡◌}
use native.Mathlib.Omega.{arith}
use lib.ListN.{length, get_or}
use mir.Syntax.{w16}
use mir.Val.{Fits}
use Rattle.layout.proofs.Row.{◌▶◌}
use borrow.Author.Rules.{rules}
use Rattle.pedr_block_round_trip.proofs.Typed.{items}
use Rattle.pedr_block_round_trip.proofs.type_frame_4.Goals as goal

-- the array's length and numbers, by its type
tracker : (s : goal.Start) → (length s.args.tracker ≡ 14) × ((k : ℕ) → Fits w16 (get_or s.args.tracker k 0))
tracker s = (search rules, λ k. search rules)

pub returns : goal.returns
returns c =
    let tracker_is = tracker c in
    items 14 c.args.tracker (omega (arith, tracker_is.0)) (λ k. (tracker_is.1 k).fits)
    ▶ tt
