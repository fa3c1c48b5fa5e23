-- The source is lent in the place of the output, which no input is.
use native.Mathlib.Omega.{arith}
use Rattle.filter.proofs.Acting.{step_acts}
use Rattle.filter.proofs.step.do_step.Goals as goal

pub returns-in-1 : goal.returns-in-1
returns-in-1 c =
    step_acts _ _ _ _ _ 1 _ c.requires.legal c.in-1.is c.work_into.ensures

pub returns-in-2 : goal.returns-in-2
returns-in-2 c =
    step_acts _ _ _ _ _ 2 _ c.requires.legal c.in-2.is c.work_into-in-2.ensures

pub returns-in_default : goal.returns-in_default
returns-in_default c =
    step_acts _ _ _ _ _ 3 _ c.requires.legal (omega arith) c.work_into-in_default.ensures
