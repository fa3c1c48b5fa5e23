-- What was taken so far, then what the rest of the steps gives, is what the steps give.
use mathlib.Core.Path.{refl, ◌∙◌}
use Rattle.std.proofs.Common.{rules}
use Rattle.message.proofs.Results.{passed_on}
use Rattle.message.proofs.Taking.{well_taken, ill_taken}
use Rattle.message.proofs.Series.{going_first, going_wrong, going_next, going_past, going_done}
use Rattle.message.proofs.reading.steps.Goals.{then-i-lt-STEP_LIMIT, else-i-lt-STEP_LIMIT}
use Rattle.message.proofs.reading.steps.Goals as goal

pub loop-i-init : goal.loop-i-init
loop-i-init c = record { message = refl; name = refl; going = going_first refl c.requires (rw c.blank-steps.ensures) }

pub step-requires : goal.step-requires
step-requires c = c.loop-i.invariant.going.room

pub bounds-steps-i : goal.bounds-steps-i
bounds-steps-i c = search rules

pub returns-in_err-step-clause-same : goal.returns-in_err-step-clause-same
returns-in_err-step-clause-same c = (c.step.ensures.same.0 ∙ c.loop-i.invariant.message, c.step.ensures.same.1 ∙ c.loop-i.invariant.name)

pub returns-in_err-step-clause-taken : goal.returns-in_err-step-clause-taken
returns-in_err-step-clause-taken c =
    ill_taken (passed_on _ _ c.from_residual.ensures.1) (going_wrong c.loop-i.invariant.going c.loop-i-test.true c.step.ensures.taken c.in_err-step.was)

pub loop-i-preserved : goal.loop-i-preserved
loop-i-preserved c = record {
  message = c.step.ensures.same.0 ∙ c.loop-i.invariant.message;
  name = c.step.ensures.same.1 ∙ c.loop-i.invariant.name;
  going = elim c.if-i-lt-STEP_LIMIT.branch [
    | then-i-lt-STEP_LIMIT w ↦ going_next c.loop-i.invariant.going c.loop-i-test.true c.step.ensures.taken c.in_ok-step.was w.steps-is
    | else-i-lt-STEP_LIMIT w ↦ going_past c.loop-i.invariant.going c.loop-i-test.true c.step.ensures.taken c.in_ok-step.was w.steps-is w.if-i-lt-STEP_LIMIT.false
  ];
}

pub returns-clause-same : goal.returns-clause-same
returns-clause-same c = (c.loop-i.invariant.message, c.loop-i.invariant.name)

pub returns-clause-taken : goal.returns-clause-taken
returns-clause-taken c = well_taken _ (going_done c.loop-i.invariant.going c.loop-i-test.false (search rules))
