-- The sheets, then the recipe.
use mathlib.Core.Path.{ap, sym, ◌∙◌}
use Rattle.sheet.proofs.Answers.{first_err, first_ok, passed_on}
use Rattle.recipe.specs.Tests.{whole, run_answer}
use Rattle.recipe.proofs.tests.run_answer.Goals as goal

pub returns-in_err-test : goal.returns-in_err-test
unfolding run_answer
returns-in_err-test c = passed_on _ c.from_residual.ensures.1 ∙ sym (first_err _ (ap whole c.test.ensures) (ap whole c.in_err-test.was))

pub returns : goal.returns
unfolding run_answer
returns c = c.recipe_answer.ensures ∙ sym (first_ok _ (ap whole c.test.ensures) (ap whole c.in_ok-test.was))
