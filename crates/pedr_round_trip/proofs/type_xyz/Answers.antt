-- Element by element, by its type; past the end stands 0.
use Prim.Native.Nat.{zero, suc, ◌≤◌}
use mathlib.Core.Path.{◌≡◌, sym, subst}
use native.Mathlib.Omega.{arith}
use lib.IntN.{pos}
use lib.ListN.{length, get_or, get_or-eq_default}
use Rattle.octets.specs.Bytes.{SignedFits}
use borrow.Author.Rules.{rules}
use Rattle.pedr_round_trip.proofs.Bounds.{signed_32}
use Rattle.pedr_round_trip.proofs.type_xyz.Goals as goal

pub returns : goal.returns
returns c zero = signed_32 (get_or c.args.xyz 0 (pos 0)) (search rules)
returns c (suc zero) = signed_32 (get_or c.args.xyz 1 (pos 0)) (search rules)
returns c (suc (suc zero)) = signed_32 (get_or c.args.xyz 2 (pos 0)) (search rules)
returns c (suc (suc (suc k))) =
    let l : length c.args.xyz ≡ 3 = search rules in
    let h : length c.args.xyz ≤ suc (suc (suc k)) = omega arith in
    subst (SignedFits 32) (sym (get_or-eq_default c.args.xyz (pos 0) h)) (omega arith)
