-- Each turn makes the numbers of one more place.
use Rattle.convolve_matrix.specs.Inner.Rows.{Widened}
use Rattle.convolve_matrix.proofs.rows.widen_places.Given as goal

abbrev pub invariant-loop-e : goal.invariant-loop-e
invariant-loop-e l = Widened l.side.mode l.side.target l.side.places l.line l.x l.lo l.e l.initial.row l.row
