-- Each bit of the rotated word.
use Rattle.std.proofs.Common.{◌≡◌, ℕ, ◌+◌, ◌%◌, ◌^◌, ◌<◌, rules, ap, ◌∙◌, arith, w32}
use Rattle.std.specs.Int.{rotate_right}
use Rattle.numbers.specs.Bit.{bit}
use Rattle.window.proofs.Furthest.{rotated_bit}
use Rattle.window.proofs.Window.rotated.Goals as goal

-- bit j of a word rotated by k is bit k + j
rotated_is : (m s r k j : ℕ) → m < 2 ^ 32 → r ≡ rotate_right w32 m k → k % 32 ≡ s % 32 → j < 32 → bit r j ≡ bit m ((s + j) % 32)
rotated_is m s r k j f e q h =
    let a : (k % 32 + j) % 32 ≡ (s + j) % 32 = omega arith in
    ap (λ x. bit x j) e ∙ rotated_bit m (k % 32) j f (omega arith) h ∙ ap (bit m) a

pub returns : goal.returns
returns c =
    λ j h.
    let w = c.args.self in
    rotated_is w.marks w.start _ _ j (let f : w.marks < 2 ^ 32 = search rules in f) c.rotate_right.ensures (omega arith) h
