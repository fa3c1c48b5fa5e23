-- Each turn draws one row.
use mathlib.Core.Path.{◌≡◌}
use lib.ListN.{length}
use Rattle.sheet.specs.Inner.Strips.{Worked}
use Rattle.turbulence.specs.Inner.Drawn.{bytes_by}
use Rattle.turbulence.proofs.draw.Drawing.draw_rows.Given as goal

abbrev pub invariant-loop-y : goal.invariant-loop-y
invariant-loop-y l = Worked (bytes_by l.self.t l.self.tables.now l.strip.width) l.strip.width l.strip.first l.strip.count l.y l.dest × (length l.dest ≡ length l.initial.dest)
