-- Each turn takes in one more row of the window.
use Rattle.convolve_matrix.specs.ConvolveMatrix.{in_order}
use Rattle.convolve_matrix.specs.Inner.Rows.{Added}
use Rattle.convolve_matrix.specs.Inner.Strips.{row_sum_of}
use Rattle.convolve_matrix.proofs.strip.Strip.add_rows.Given as goal

abbrev pub invariant-loop-oy : goal.invariant-loop-oy
invariant-loop-oy l = Added (λ i c. in_order l.oy (row_sum_of l.self l.y i c)) l.self.n l.initial.work.sums l.work.sums
