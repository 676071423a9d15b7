-- Two stores of one number are a put of both.
use Prim.Native.Nat.{ℕ, suc, ◌+◌, ◌*◌}
use mathlib.Core.Path.{◌≡◌, ap}
use native.Mathlib.Omega.{arith}
use lib.ListN.{set}
use Rattle.octets.specs.Bytes.{put}
use Rattle.reorder_c_answers.proofs.put_description.Goals as goal

pub returns : goal.returns
unfolding put
returns c =
    let a = c.args in
    let e : 2 * a.i + 1 ≡ suc (2 * a.i) = omega arith in
    ap (λ (k : ℕ). set (set a.numbers.now (2 * a.i) a.description.kind) k a.description.position) e
