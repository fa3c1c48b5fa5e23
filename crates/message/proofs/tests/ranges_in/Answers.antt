-- By the cases of the work.
use mathlib.Core.Path.{◌∙◌}
use Rattle.message.specs.Answers.{all_in_lem}
use Rattle.message.proofs.FirstSteps.{one_in}
use Rattle.message.proofs.Cases.{plain_work}
use borrow.Enum.Refused.{opened}
use Rattle.message.proofs.tests.ranges_in.Goals as goal

pub returns-in-ColorMatrix : goal.returns-in-ColorMatrix
returns-in-ColorMatrix c = rw c.in-ColorMatrix.is c.matrix_in.ensures

pub returns-in-ComponentTransfer : goal.returns-in-ComponentTransfer
returns-in-ComponentTransfer c = rw c.in-ComponentTransfer.is c.functions_in.ensures

pub returns-in-ConvolveMatrix : goal.returns-in-ConvolveMatrix
returns-in-ConvolveMatrix c = rw c.in-ConvolveMatrix.is (c.is_in.ensures ∙ one_in _ _)

pub returns-in_default : goal.returns-in_default
unfolding all_in_lem
returns-in_default c = rw (plain_work c.args.work (opened c.in_default.in_default-own.keys4))
