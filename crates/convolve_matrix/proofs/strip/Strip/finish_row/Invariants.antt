-- Each turn stores one pixel of the row.
use Prim.Native.Nat.{◌*◌}
use Rattle.sheet.specs.Inner.Strips.{Changed}
use Rattle.convolve_matrix.specs.Inner.Rows.{finished_at}
use Rattle.convolve_matrix.proofs.strip.Strip.finish_row.Given as goal

abbrev pub invariant-loop-i : goal.invariant-loop-i
invariant-loop-i l = Changed 0 (finished_at l.self.whole.matrix l.sums l.self.whole.src.now l.first) l.first (4 * l.i) l.initial.dest l.dest
