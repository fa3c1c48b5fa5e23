-- Two numbers, then the matrix.
use mathlib.Core.Path.{refl}
use mathlib.Core.List.{[]}
use native.Mathlib.Omega.{arith}
use Rattle.message.specs.Steps.{colour}
use Rattle.message.specs.Inner.Reading.{firsts}
use Rattle.message.proofs.Results.{passed_on}
use Rattle.message.proofs.Taking.{ill_taken, field_wrong, head_wrong, tail_wrong}
use Rattle.message.proofs.Forms.{colour_form}
use Rattle.message.proofs.listed.color_matrix.Goals as goal

pub returns-in_err-input-clause-taken : goal.returns-in_err-input-clause-taken
returns-in_err-input-clause-taken c =
    ill_taken (passed_on _ _ c.from_residual.ensures.1) (head_wrong 2 refl _ _ (c.row.ensures.row.ill _ c.in_err-input.was))

pub matrix-requires : goal.matrix-requires
matrix-requires c =
    let f = (c.row.ensures.row.well _ c.in_ok-input.was).1 in
    let r = c.requires in
    omega arith

pub returns-in_err-matrix-clause-taken : goal.returns-in_err-matrix-clause-taken
unfolding firsts
returns-in_err-matrix-clause-taken c =
    ill_taken (passed_on _ _ c.from_residual-in_err-matrix.ensures.1)
    (tail_wrong 2 refl _ _ c.row.new.reader (c.row.ensures.row.well _ c.in_ok-input.was).0 (field_wrong colour [] _ (c.matrix.ensures.taken.ill _ c.in_err-matrix.was)))

pub returns-clause-taken : goal.returns-clause-taken
unfolding firsts
returns-clause-taken c = colour_form _ c.row.new.reader (c.row.ensures.row.well _ c.in_ok-input.was).0 (c.matrix.ensures.taken.well _ c.in_ok-matrix.was)
