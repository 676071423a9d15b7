-- Both definitions of the quotient are one, by sign.
use Rattle.std.proofs.Common.{◌≡◌, ℕ, refl, ap, ◌∙◌, arith, ℤ, pos, negsuc}
use Rattle.std.proofs.lemmas.Int.{ints, clamps}
use Rattle.std.specs.Int.{int_div_euclid}
use lib.Signed.{shr_z}
use Rattle.position.proofs.rounds.Goals as goal

rounded_down : (x : ℤ) (m : ℕ) → int_div_euclid x (pos m) ≡ shr_z x m
rounded_down (pos a) m = refl
rounded_down (negsuc a) m = refl

pub returns : goal.returns
returns c =
    let x = c.args.x in
    let q : c.div_euclid.result ≡ shr_z x 229376 =
    c.div_euclid.ensures ∙ ap (λ (y : ℤ). int_div_euclid y (pos 229376)) (omega (arith, ints, clamps)) ∙ rounded_down x 229376 in
    omega (arith, ints, q)
