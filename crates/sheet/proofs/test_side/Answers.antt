-- The two tests of the code are the definition's.
use Rattle.sheet.specs.Size.{is_side}
use Rattle.sheet.proofs.Answers.{tests}
use Rattle.sheet.proofs.test_side.Goals as goal

pub returns-then-n-le-SIDE_LIMIT : goal.returns-then-n-le-SIDE_LIMIT
unfolding is_side
returns-then-n-le-SIDE_LIMIT c = search tests

pub returns-else-n-gt0 : goal.returns-else-n-gt0
unfolding is_side
returns-else-n-gt0 c = search tests
