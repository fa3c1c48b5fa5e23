-- The tests come first; a run that passes them does its steps.
use mathlib.Core.Path.{refl, sym, ◌∙◌}
use Rattle.sheet.proofs.Answers.{passed_on}
use Rattle.filter.proofs.Accepted.{sheets_passed, recipe_passed, count_few, steps_legal, slots_fit}
use Rattle.filter.proofs.Running.{ran_refused, ran_done}
use Rattle.filter.proofs.run.Goals as goal

pub returns-in_err-run_answer : goal.returns-in_err-run_answer
returns-in_err-run_answer c = ran_refused c.run_answer.ensures c.in_err-run_answer.was (passed_on _ c.from_residual.ensures.1) refl refl

pub do_steps-requires : goal.do_steps-requires
do_steps-requires c =
    let d = sym c.run_answer.ensures ∙ c.in_ok-run_answer.was in
    let p = recipe_passed _ _ _ _ _ _ d in
    record { fits = slots_fit _ _ _ _ (sheets_passed _ _ _ _ _ _ d); count_le_step_limit = count_few _ _ _ p; by_index = steps_legal _ _ _ p }

pub returns : goal.returns
returns c = ran_done c.run_answer.ensures c.in_ok-run_answer.was c.do_steps.ensures.s3_value c.do_steps.ensures.scratch_value
