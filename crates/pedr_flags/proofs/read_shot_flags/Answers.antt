-- Outside 1 to 20 the shot is refused; inside, its flags are those of the two reads.
use mathlib.Core.Path.{◌≡◌}
use mathlib.Core.Bool.{true, false}
use native.Mathlib.Omega.{arith}
use Rattle.std.proofs.lemmas.Bool.Decides.{nat_tests}
use Rattle.octets.specs.Refusal.{refuse◌unless◌else◌, within, say}
use Rattle.pedr_flags.specs.Shot.{flags_of}
use Rattle.pedr_flags.proofs.read_shot_flags.Goals as goal

pub returns-then-not-contains : goal.returns-then-not-contains
unfolding refuse◌unless◌else◌ say
returns-then-not-contains c =
    let e = c.if-not-contains.ensures in
    let w : within 1 20 c.args.shot ≡ false = grind (arith, nat_tests, e.cases, c.new.ensures.start, c.new.ensures.end) in simp w

pub returns : goal.returns
unfolding refuse◌unless◌else◌ say flags_of
returns c =
    let e = c.if-not-contains.ensures in
    let w : within 1 20 c.args.shot ≡ true = grind (arith, nat_tests, e.cases, c.new.ensures.start, c.new.ensures.end) in
    simp (w, c.is_good.ensures, c.u24_at.ensures, c.read_failures.ensures)
