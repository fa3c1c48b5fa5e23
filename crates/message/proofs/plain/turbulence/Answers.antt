-- A row of numbers, of which the step is made.
use mathlib.Core.Path.{refl, ◌∙◌}
use mir.Syntax.{w32}
use mir.ValLaws.{to_z-of_z}
use Rattle.message.specs.Inner.Reading.{firsts}
use Rattle.message.proofs.Results.{passed_on}
use Rattle.message.proofs.PlainRows.{plain_well, plain_ill}
use Rattle.message.proofs.plain.turbulence.Goals as goal

pub returns-in_err-w-clause-taken : goal.returns-in_err-w-clause-taken
returns-in_err-w-clause-taken c = plain_ill 7 refl tt (passed_on _ _ c.from_residual.ensures.1) (c.row.ensures.row.ill _ c.in_err-w.was)

pub returns-clause-taken : goal.returns-clause-taken
unfolding firsts
returns-clause-taken c =
    let seed = to_z-of_z w32 c.seed_of.result (record { sfits = c.seed_of.type_inv }) ∙ c.seed_of.ensures in
    plain_well 7 refl tt (c.row.ensures.row.well _ c.in_ok-w.was) _ (λ used. simp (c.double_of.ensures, c.double_of-2.ensures, c.double_of-3.ensures, c.double_of-4.ensures, c.double_of-5.ensures, c.double_of-6.ensures, seed))
