-- The code is the sum, term by term.
use Rattle.color_matrix.specs.Rows.{colour_sum}
use Rattle.color_matrix.proofs.pixel.colour_applied.Goals as goal

pub returns : goal.returns
unfolding colour_sum
returns c = c.from_normalized.ensures
