-- Each turn draws one row.
use mathlib.Core.Path.{◌∙◌}
use Rattle.sheet.proofs.Strips.{worked_row}
use Rattle.turbulence.proofs.draw.Drawing.draw_rows.Goals as goal

pub loop-y-preserved : goal.loop-y-preserved
loop-y-preserved c =
    (worked_row _ c.args.strip.width c.args.strip.first c.args.strip.count c.loop-y.y c.draw_row.ensures c.loop-y.invariant.0, c.draw_row.ensures.same ∙ c.loop-y.invariant.1)
