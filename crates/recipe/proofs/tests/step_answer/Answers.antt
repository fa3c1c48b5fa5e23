-- The tests come in the definition's order.
use Rattle.sheet.proofs.Answers.{denied, allowed}
use Rattle.recipe.specs.Tests.{step_answer}
use Rattle.recipe.proofs.Prefix.{no_sheet, a_sheet}
use Rattle.recipe.proofs.tests.step_answer.Goals as goal

pub returns-then-not-slots_ok : goal.returns-then-not-slots_ok
unfolding step_answer
returns-then-not-slots_ok c = rw (denied (rw c.inputs.ensures at c.slots_ok.ensures) c.if-not-slots_ok.true)

pub returns-then-is_none : goal.returns-then-is_none
unfolding step_answer
returns-then-is_none c =
    rw (allowed (rw c.inputs.ensures at c.slots_ok.ensures) c.if-not-slots_ok.false, no_sheet _ (rw c.made_by.ensures at c.is_none.ensures) c.if-is_none.true)

pub returns : goal.returns
unfolding step_answer
returns c =
    rw (allowed (rw c.inputs.ensures at c.slots_ok.ensures) c.if-not-slots_ok.false, a_sheet _ (rw c.made_by.ensures at c.is_none.ensures) c.if-is_none.false) c.work_answer.ensures
