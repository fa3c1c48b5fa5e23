-- By the cases of the matrix.
use mathlib.Core.Path.{◌∙◌}
use Rattle.message.specs.Answers.{all_in_lem}
use Rattle.message.proofs.FirstSteps.{one_in}
use Rattle.message.proofs.tests.matrix_in.Goals as goal

pub returns-in-Matrix : goal.returns-in-Matrix
returns-in-Matrix c = rw c.in-Matrix.is (c.is_in.ensures ∙ one_in _ _)

pub returns-in-Saturate : goal.returns-in-Saturate
unfolding all_in_lem
returns-in-Saturate c = rw c.in-Saturate.is

pub returns-in-HueRotate : goal.returns-in-HueRotate
unfolding all_in_lem
returns-in-HueRotate c = rw c.in-HueRotate.is

pub returns-in-LuminanceToAlpha : goal.returns-in-LuminanceToAlpha
unfolding all_in_lem
returns-in-LuminanceToAlpha c = rw c.in-LuminanceToAlpha.is
