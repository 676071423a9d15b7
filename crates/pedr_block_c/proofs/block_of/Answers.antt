-- Frame by frame.
use mathlib.Core.Path.{sym, ◌∙◌}
use borrow.Author.Tests.{ne_eqb}
use Rattle.pedr_layout.proofs.Frames.{at_1, at_2, at_3, at_4, at_5, at_6, at_rest}
use Rattle.pedr_block_c.specs.Numbers.{block_of_numbers}
use native.Mathlib.Omega.{arith}
use Rattle.pedr_block_c.proofs.block_of.Goals as goal

pub returns-in-1 : goal.returns-in-1
unfolding block_of_numbers
returns-in-1 c = sym (at_1 _ _ _ _ _ _ _ _ c.in-1.is)

pub returns-in-2 : goal.returns-in-2
unfolding block_of_numbers
returns-in-2 c = sym (at_2 _ _ _ _ _ _ _ _ c.in-2.is)

pub returns-in-3 : goal.returns-in-3
unfolding block_of_numbers
returns-in-3 c = sym (at_3 _ _ _ _ _ _ _ _ c.in-3.is)

pub returns-in-4 : goal.returns-in-4
unfolding block_of_numbers
returns-in-4 c = sym (at_4 _ _ _ _ _ _ _ _ c.in-4.is)

pub returns-in-5 : goal.returns-in-5
unfolding block_of_numbers
returns-in-5 c = sym (at_5 _ _ _ _ _ _ _ _ c.in-5.is)

pub returns-in-6 : goal.returns-in-6
unfolding block_of_numbers
returns-in-6 c = sym (at_6 _ _ _ _ _ _ _ _ c.in-6.is)

pub returns-in-7 : goal.returns-in-7
unfolding block_of_numbers
returns-in-7 c = sym (simp c.in-7.is)

pub returns-in_default : goal.returns-in_default
unfolding block_of_numbers
returns-in_default c =
    c.other_block.ensures
    ∙ sym (at_rest c.args.numbers.frame _ _ _ _ _ _ _ (omega arith) (omega arith) (omega arith) (omega arith) (omega arith) (omega arith) ∙ simp (ne_eqb c.args.numbers.frame 7 (omega arith)))
