-- Each turn stores one pixel, whose bytes are the definition's.
use Prim.Native.Nat.{◌*◌}
use Rattle.sheet.proofs.Filling.{Painting}
use Rattle.composite.specs.Composite.{composed_at}
use Rattle.composite.proofs.compose.Given as goal

abbrev pub invariant-loop-i : goal.invariant-loop-i
invariant-loop-i l = Painting (composed_at l.k l.src1 l.src2) l.initial.dest l.dest (4 * l.i)
