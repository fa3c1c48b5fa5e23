-- The steps are tried without a pool, and the tests come in the definition's order.
use mathlib.Core.Path.{ap, ◌∙◌}
use native.Mathlib.Omega.{arith}
use Rattle.message.proofs.Results.{passed_on}
use Rattle.message.proofs.Whole.{test_malformed, test_steps, test_room, test_done, count_wrong, all_wrong, all_over, all_good, all_steps, all_numbers}
use Rattle.message.proofs.reading.test.Goals as goal

pub returns-in_err-count : goal.returns-in_err-count
returns-in_err-count c = passed_on _ _ c.from_residual.ensures.1 ∙ test_malformed _ _ (count_wrong c.args.message.now c.new-reader.result c.number.new.self (ap (λ x. x.now) c.new-reader.ensures.0) c.new-reader.ensures.1 c.number.ensures.same c.number.ensures.number c.in_err-count.was)

pub steps-requires : goal.steps-requires
steps-requires c = let z = c.new-pool.ensures.all.1 in omega arith

pub returns-in_err-steps : goal.returns-in_err-steps
returns-in_err-steps c = passed_on _ _ c.from_residual-in_err-steps.ensures.1 ∙ test_malformed _ _ (all_wrong c.args.message.now c.new-reader.result c.number.new.self (ap (λ x. x.now) c.new-reader.ensures.0) c.new-reader.ensures.1 c.number.ensures.same c.number.ensures.number c.in_ok-count.was c.new-pool.ensures.all.1 c.steps.ensures.same.0 c.steps.ensures.taken c.in_err-steps.was)

pub returns-then-reader-message : goal.returns-then-reader-message
returns-then-reader-message c = test_malformed _ _ (all_over c.args.message.now c.new-reader.result c.number.new.self (ap (λ x. x.now) c.new-reader.ensures.0) c.new-reader.ensures.1 c.number.ensures.same c.number.ensures.number c.in_ok-count.was c.new-pool.ensures.all.1 c.steps.ensures.same.0 c.steps.ensures.taken c.in_ok-steps.was c.if-reader-message.true)

pub returns-then-count-gt-STEP_LIMIT : goal.returns-then-count-gt-STEP_LIMIT
returns-then-count-gt-STEP_LIMIT c =
    test_steps _ _ (all_good c.args.message.now c.new-reader.result c.number.new.self (ap (λ x. x.now) c.new-reader.ensures.0) c.new-reader.ensures.1 c.number.ensures.same c.number.ensures.number c.in_ok-count.was c.new-pool.ensures.all.1 c.steps.ensures.same.0 c.steps.ensures.taken c.in_ok-steps.was c.if-reader-message.false)
    (all_steps c.args.message.now c.new-reader.result c.number.new.self (ap (λ x. x.now) c.new-reader.ensures.0) c.new-reader.ensures.1 c.number.ensures.same c.number.ensures.number c.in_ok-count.was c.new-pool.ensures.all.1 c.steps.ensures.same.0 c.steps.ensures.taken c.in_ok-steps.was) c.if-count-gt-STEP_LIMIT.true

pub returns-then-room-pool : goal.returns-then-room-pool
returns-then-room-pool c =
    test_room _ _ (all_good c.args.message.now c.new-reader.result c.number.new.self (ap (λ x. x.now) c.new-reader.ensures.0) c.new-reader.ensures.1 c.number.ensures.same c.number.ensures.number c.in_ok-count.was c.new-pool.ensures.all.1 c.steps.ensures.same.0 c.steps.ensures.taken c.in_ok-steps.was c.if-reader-message.false)
    (all_steps c.args.message.now c.new-reader.result c.number.new.self (ap (λ x. x.now) c.new-reader.ensures.0) c.new-reader.ensures.1 c.number.ensures.same c.number.ensures.number c.in_ok-count.was c.new-pool.ensures.all.1 c.steps.ensures.same.0 c.steps.ensures.taken c.in_ok-steps.was)
    (all_numbers c.args.message.now c.new-reader.result c.number.new.self (ap (λ x. x.now) c.new-reader.ensures.0) c.new-reader.ensures.1 c.number.ensures.same c.number.ensures.number c.in_ok-count.was c.new-pool.ensures.all.1 c.steps.ensures.same.0 c.steps.ensures.taken c.in_ok-steps.was) c.if-count-gt-STEP_LIMIT.false c.if-room-pool.true

pub returns : goal.returns
returns c =
    test_done _ _ (all_good c.args.message.now c.new-reader.result c.number.new.self (ap (λ x. x.now) c.new-reader.ensures.0) c.new-reader.ensures.1 c.number.ensures.same c.number.ensures.number c.in_ok-count.was c.new-pool.ensures.all.1 c.steps.ensures.same.0 c.steps.ensures.taken c.in_ok-steps.was c.if-reader-message.false)
    (all_steps c.args.message.now c.new-reader.result c.number.new.self (ap (λ x. x.now) c.new-reader.ensures.0) c.new-reader.ensures.1 c.number.ensures.same c.number.ensures.number c.in_ok-count.was c.new-pool.ensures.all.1 c.steps.ensures.same.0 c.steps.ensures.taken c.in_ok-steps.was)
    (all_numbers c.args.message.now c.new-reader.result c.number.new.self (ap (λ x. x.now) c.new-reader.ensures.0) c.new-reader.ensures.1 c.number.ensures.same c.number.ensures.number c.in_ok-count.was c.new-pool.ensures.all.1 c.steps.ensures.same.0 c.steps.ensures.taken c.in_ok-steps.was) c.if-count-gt-STEP_LIMIT.false c.if-room-pool.false
