-- Each turn spreads one row; the rows below it are spread already, and the others are as in src.
use Rattle.morphology.specs.Inner.Lines.{Rows}
use Rattle.morphology.proofs.spread.spread_rows.Given as goal

abbrev pub invariant-loop-y : goal.invariant-loop-y
invariant-loop-y l = Rows l.operator l.radius l.width l.height l.y l.src l.scratch
