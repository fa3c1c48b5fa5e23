-- Six numbers, then the kernel, then the divisor, the bias and two codes.
use mathlib.Core.Path.{refl}
use native.Mathlib.Omega.{arith}
use Rattle.message.specs.Inner.Reading.{firsts}
use Rattle.message.proofs.Results.{passed_on}
use Rattle.message.proofs.Taking.{ill_taken, head_wrong, tail_wrong}
use Rattle.message.proofs.Forms.{kernel_wrong, kernel_tail_wrong, kernel_form}
use Rattle.message.proofs.listed.convolve_matrix.Goals as goal

pub returns-in_err-input-clause-taken : goal.returns-in_err-input-clause-taken
returns-in_err-input-clause-taken c =
    ill_taken (passed_on _ _ c.from_residual.ensures.1) (head_wrong 5 refl _ _ (c.row.ensures.row.ill _ c.in_err-input.was))

pub numbers-requires : goal.numbers-requires
numbers-requires c =
    let f = (c.row.ensures.row.well _ c.in_ok-input.was).1 in
    let r = c.requires in
    omega arith

pub returns-in_err-numbers-clause-taken : goal.returns-in_err-numbers-clause-taken
unfolding firsts
returns-in_err-numbers-clause-taken c =
    ill_taken (passed_on _ _ c.from_residual-in_err-numbers.ensures.1)
    (tail_wrong 5 refl _ _ c.row.new.reader (c.row.ensures.row.well _ c.in_ok-input.was).0 (kernel_wrong c.row.new.reader (c.numbers.ensures.taken.ill _ c.in_err-numbers.was)))

pub returns-in_err-divisor-clause-taken : goal.returns-in_err-divisor-clause-taken
unfolding firsts
returns-in_err-divisor-clause-taken c =
    ill_taken (passed_on _ _ c.from_residual-in_err-divisor.ensures.1)
    (tail_wrong 5 refl _ _ c.row.new.reader (c.row.ensures.row.well _ c.in_ok-input.was).0
    (kernel_tail_wrong c.row.new.reader (c.numbers.ensures.taken.well _ c.in_ok-numbers.was) (c.row-2.ensures.row.ill _ c.in_err-divisor.was)))

pub returns-clause-taken : goal.returns-clause-taken
unfolding firsts
returns-clause-taken c =
    kernel_form c.row.new.reader (c.numbers.ensures.taken.well _ c.in_ok-numbers.was) _ (c.row.ensures.row.well _ c.in_ok-input.was).0 c.row-2.new.reader (c.row-2.ensures.row.well _ c.in_ok-divisor.was)
    (simp (c.float_of.ensures, c.float_of-2.ensures, c.edge_by.ensures))
