-- The count is tested, then the range.
use Rattle.sheet.proofs.Answers.{tests}
use Rattle.color_matrix.specs.ColorMatrix.{twenty_answer}
use Rattle.color_matrix.proofs.test_matrix.Goals as goal

pub returns-then-numbers-ne20 : goal.returns-then-numbers-ne20
unfolding twenty_answer
returns-then-numbers-ne20 c = search tests

pub returns : goal.returns
unfolding twenty_answer
returns c = search (tests, c.test.ensures)
