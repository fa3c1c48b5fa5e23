-- Each turn stores one more row of the strip.
use mathlib.Core.Path.{◌≡◌}
use lib.ListN.{length}
use Rattle.sheet.specs.Inner.Strips.{Worked}
use Rattle.convolve_matrix.specs.Inner.Strips.{convolved_of}
use Rattle.convolve_matrix.proofs.strip.Strip.convolve_rows.Given as goal

abbrev pub invariant-loop-y : goal.invariant-loop-y
invariant-loop-y l = record {
  same : length l.dest ≡ length l.initial.dest;
  worked : Worked (convolved_of l.self.whole) l.self.whole.width l.self.x l.self.n l.y l.dest;
}
