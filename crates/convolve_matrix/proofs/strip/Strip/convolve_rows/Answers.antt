-- Each turn stores one more row of the strip.
use mathlib.Core.Path.{◌∙◌}
use Rattle.sheet.proofs.Strips.{worked_row}
use Rattle.convolve_matrix.proofs.strip.Strip.convolve_rows.Goals as goal

pub loop-y-preserved : goal.loop-y-preserved
loop-y-preserved c = record {
  same = c.convolve_row.ensures.same ∙ c.loop-y.invariant.same;
  worked = worked_row _ _ _ _ _ c.convolve_row.ensures c.loop-y.invariant.worked;
}
