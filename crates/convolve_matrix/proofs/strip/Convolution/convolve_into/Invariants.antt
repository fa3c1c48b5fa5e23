-- Each turn works on one more strip.
use Prim.Native.Nat.{◌*◌, min}
use mathlib.Core.Path.{◌≡◌}
use lib.ListN.{length}
use Rattle.sheet.specs.Inner.Strips.{strip_limit, Worked}
use Rattle.convolve_matrix.specs.Inner.Strips.{convolved_of}
use Rattle.convolve_matrix.proofs.strip.Convolution.convolve_into.Given as goal

abbrev pub invariant-loop-i : goal.invariant-loop-i
invariant-loop-i l = record {
  same : length l.dest ≡ length l.initial.dest;
  worked : Worked (convolved_of l.self) l.self.width (min (strip_limit * l.i) l.self.width) 0 0 l.dest;
}
