-- The code is the sum, term by term.
use Rattle.color_matrix.specs.Rows.{sum}
use Rattle.color_matrix.proofs.pixel.applied.Goals as goal

pub returns : goal.returns
unfolding sum
returns c = c.from_normalized.ensures
