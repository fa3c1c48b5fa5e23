-- One number is tested as any numbers are.
use Rattle.color_matrix.specs.ColorMatrix.{saturate_answer}
use Rattle.color_matrix.proofs.test_saturate.Goals as goal

pub returns : goal.returns
unfolding saturate_answer
returns c = c.test.ensures
