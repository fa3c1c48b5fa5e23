-- Each turn stores one pixel of the row.
use Rattle.turbulence.specs.Inner.Rows.{row_point, RowAt}
use Rattle.turbulence.specs.Inner.Drawn.{RowDrawn}
use Rattle.turbulence.proofs.draw.Drawing.draw_row.Given as goal

abbrev pub invariant-loop-i : goal.invariant-loop-i
invariant-loop-i l = RowDrawn l.self.t l.self.tables.now l.fn.strip.width l.y l.fn.strip.first l.i l.initial.dest l.dest × RowAt (row_point l.self.t l.y) l.row
