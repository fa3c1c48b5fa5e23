-- By the cases of the function.
use mathlib.Core.Path.{◌∙◌}
use Rattle.message.specs.Answers.{all_in_lem}
use Rattle.message.proofs.FirstSteps.{one_in}
use Rattle.message.proofs.tests.function_in.Goals as goal

pub returns-in-Identity : goal.returns-in-Identity
unfolding all_in_lem
returns-in-Identity c = rw c.in-Identity.is

pub returns-in-Table : goal.returns-in-Table
returns-in-Table c = rw c.in-Table.is (c.is_in.ensures ∙ one_in _ _)

pub returns-in-Discrete : goal.returns-in-Discrete
returns-in-Discrete c = rw c.in-Discrete.is (c.is_in-in-Discrete.ensures ∙ one_in _ _)

pub returns-in-Linear : goal.returns-in-Linear
unfolding all_in_lem
returns-in-Linear c = rw c.in-Linear.is
