-- Each turn takes in one more row of the window.
use Rattle.convolve_matrix.specs.Inner.Strips.{row_sum_of}
use Rattle.convolve_matrix.proofs.Summing.{added_none, added_more}
use Rattle.convolve_matrix.proofs.strip.Strip.add_rows.Goals as goal

pub loop-oy-init : goal.loop-oy-init
loop-oy-init c = added_none _ _ _

pub loop-oy-preserved : goal.loop-oy-preserved
loop-oy-preserved c = added_more _ (row_sum_of c.args.self.now c.args.y) _ c.loop-oy.invariant c.add_row.ensures
