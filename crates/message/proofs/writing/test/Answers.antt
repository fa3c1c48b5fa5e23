-- Each return by the tests that led there.
use borrow.Author.Tests.{lt-ltb, le-ltb}
use Rattle.recipe.specs.Tests.{step_limit}
use Rattle.message.specs.Answers.{write_answer}
use mathlib.Core.Path.{◌∙◌}
use Rattle.message.proofs.Results.{passed_on}
use Rattle.message.proofs.writing.test.Goals as goal

pub returns-then-recipe-gt-STEP_LIMIT : goal.returns-then-recipe-gt-STEP_LIMIT
unfolding write_answer
returns-then-recipe-gt-STEP_LIMIT c = rw (lt-ltb step_limit _ c.if-recipe-gt-STEP_LIMIT.true)

pub returns-in_err-test_ranges : goal.returns-in_err-test_ranges
unfolding write_answer
returns-in_err-test_ranges c =
    let z = passed_on c.from_residual.result c.in_err-test_ranges.field-0.0 c.from_residual.ensures.1 in
    z ∙ rw (le-ltb step_limit _ c.if-recipe-gt-STEP_LIMIT.false, ← c.test_ranges.ensures, c.in_err-test_ranges.was)

pub returns-then-room-length_of : goal.returns-then-room-length_of
unfolding write_answer
returns-then-room-length_of c =
    rw (le-ltb step_limit _ c.if-recipe-gt-STEP_LIMIT.false, ← c.test_ranges.ensures, c.in_ok-test_ranges.was, ← c.length_of.ensures, lt-ltb _ _ c.if-room-length_of.true)

pub returns : goal.returns
unfolding write_answer
returns c =
    rw (le-ltb step_limit _ c.if-recipe-gt-STEP_LIMIT.false, ← c.test_ranges.ensures, c.in_ok-test_ranges.was, ← c.length_of.ensures, le-ltb _ _ c.if-room-length_of.false)
