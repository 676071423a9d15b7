-- Each return is one rung of the ladder.
use mathlib.Core.Path.{refl, sym}
use native.Mathlib.Omega.{arith}
use Rattle.octets.proofs.Ladder.{then_pass, then_fail, pass_eq, fail_eq}
use Rattle.reorder_session.specs.Session.{store_refusal}
use Rattle.reorder_session.proofs.Whole.{fit, unfit}
use Rattle.reorder_session.proofs.Session.check_store.Goals as goal

pub returns-then-is_broken : goal.returns-then-is_broken
unfolding store_refusal
returns-then-is_broken c = then_fail _ _ 30 (unfit _ (sym c.if-is_broken.ensures)) (λ q. omega arith)

pub returns-then-store_size-ne-STORE_SIZE : goal.returns-then-store_size-ne-STORE_SIZE
unfolding store_refusal
returns-then-store_size-ne-STORE_SIZE c = then_pass _ _ 27 (fit _ (sym c.if-is_broken.ensures)) (fail_eq _ _ 27 _ c.if-store_size-ne-STORE_SIZE.true)

pub returns : goal.returns
unfolding store_refusal
returns c = then_pass _ _ 0 (fit _ (sym c.if-is_broken.ensures)) (pass_eq _ _ 27 0 0 c.if-store_size-ne-STORE_SIZE.false refl)
