-- Each turn takes in one more column of the window.
use Rattle.convolve_matrix.specs.ConvolveMatrix.{in_order}
use Rattle.convolve_matrix.specs.Inner.Rows.{Added}
use Rattle.convolve_matrix.specs.Inner.Strips.{shifted_of}
use Rattle.convolve_matrix.proofs.strip.Strip.add_columns.Given as goal

abbrev pub invariant-loop-ox : goal.invariant-loop-ox
invariant-loop-ox l = Added (λ i c. in_order l.ox (shifted_of l.self l.row l.oy i c)) l.self.n l.initial.sums l.sums
