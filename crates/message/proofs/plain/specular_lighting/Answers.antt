-- A row of numbers, of which the step is made.
use mathlib.Core.Path.{refl}
use Rattle.message.specs.Inner.Reading.{firsts}
use Rattle.message.proofs.Results.{passed_on}
use Rattle.message.proofs.PlainRows.{plain_well, plain_ill}
use Rattle.message.proofs.plain.specular_lighting.Goals as goal

pub returns-in_err-input-clause-taken : goal.returns-in_err-input-clause-taken
returns-in_err-input-clause-taken c = plain_ill 9 refl tt (passed_on _ _ c.from_residual.ensures.1) (c.row.ensures.row.ill _ c.in_err-input.was)

pub returns-clause-taken : goal.returns-clause-taken
unfolding firsts
returns-clause-taken c = plain_well 9 refl tt (c.row.ensures.row.well _ c.in_ok-input.was) _ (λ used. simp (c.light_by-light.ensures, c.float_of.ensures, c.float_of-2.ensures, c.float_of-3.ensures, c.float_of-4.ensures, c.float_of-5.ensures, c.float_of-6.ensures, c.byte_of.ensures, c.byte_of-2.ensures, c.byte_of-3.ensures))
