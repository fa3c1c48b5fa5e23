-- A row of numbers, of which the step is made.
use mathlib.Core.Path.{refl}
use Rattle.message.specs.Inner.Reading.{firsts}
use Rattle.message.proofs.Results.{passed_on}
use Rattle.message.proofs.PlainRows.{plain_well, plain_ill}
use Rattle.message.proofs.plain.displacement_map.Goals as goal

pub returns-in_err-input-clause-taken : goal.returns-in_err-input-clause-taken
returns-in_err-input-clause-taken c = plain_ill 6 refl tt (passed_on _ _ c.from_residual.ensures.1) (c.row.ensures.row.ill _ c.in_err-input.was)

pub returns-clause-taken : goal.returns-clause-taken
unfolding firsts
returns-clause-taken c = plain_well 6 refl tt (c.row.ensures.row.well _ c.in_ok-input.was) _ (λ used. simp (c.channel_by.ensures, c.channel_by-2.ensures, c.float_of.ensures, c.float_of-2.ensures, c.float_of-3.ensures))
