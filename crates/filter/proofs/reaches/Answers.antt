-- A run that is refused reaches nothing, and one that is not goes back through its steps.
use mathlib.Core.Path.{sym, ◌∙◌}
use Rattle.sheet.proofs.Answers.{passed_on}
use Rattle.filter.proofs.Accepted.{recipe_passed, count_some, count_few}
use Rattle.filter.proofs.Running.{reaches_refused, reaches_done}
use Rattle.filter.proofs.reaches.Goals as goal

pub returns-in_err-tested : goal.returns-in_err-tested
returns-in_err-tested c = reaches_refused c.run_answer-tested.ensures c.in_err-tested.was (passed_on _ c.from_residual.ensures.1)

pub result_reaches-requires : goal.result_reaches-requires
result_reaches-requires c =
    let p = recipe_passed _ _ _ _ _ _ (sym c.run_answer-tested.ensures ∙ c.in_ok-tested.was) in
    record { count_nonzero = count_some _ _ _ p; count_le_step_limit = count_few _ _ _ p }

pub returns : goal.returns
returns c = reaches_done c.run_answer-tested.ensures c.in_ok-tested.was c.result_reaches.ensures
