-- Each turn draws one strip.
use Rattle.sheet.specs.Inner.Strips.{Worked}
use Rattle.turbulence.specs.Inner.Drawn.{bytes_by}
use Rattle.turbulence.proofs.draw.Drawing.draw_strips.Given as goal

abbrev pub invariant-loop-first : goal.invariant-loop-first
invariant-loop-first l = Worked (bytes_by l.self.t l.self.tables.now l.width) l.width l.first 0 0 l.dest
