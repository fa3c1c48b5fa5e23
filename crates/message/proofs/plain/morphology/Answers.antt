-- A row of numbers, of which the step is made.
use mathlib.Core.Path.{refl}
use Rattle.message.specs.Inner.Reading.{firsts}
use Rattle.message.proofs.Results.{passed_on}
use Rattle.message.proofs.PlainRows.{plain_well, plain_ill}
use Rattle.message.proofs.plain.morphology.Goals as goal

pub returns-in_err-input-clause-taken : goal.returns-in_err-input-clause-taken
returns-in_err-input-clause-taken c = plain_ill 1 refl tt (passed_on _ _ c.from_residual.ensures.1) (c.row.ensures.row.ill _ c.in_err-input.was)

pub returns-clause-taken : goal.returns-clause-taken
unfolding firsts
returns-clause-taken c = plain_well 1 refl tt (c.row.ensures.row.well _ c.in_ok-input.was) _ (λ used. simp (c.operator_by.ensures, c.float_of.ensures, c.float_of-2.ensures))
