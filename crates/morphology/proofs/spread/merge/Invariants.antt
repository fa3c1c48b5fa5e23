-- The bytes passed are merged, and the others are as they were.
use Prim.Native.Nat.{◌≤◌}
use Rattle.morphology.specs.Inner.Lines.{Merged}
use Rattle.morphology.proofs.spread.merge.Given as goal

abbrev pub invariant-loop-i : goal.invariant-loop-i
invariant-loop-i l = (l.i ≤ l.n) × Merged l.operator l.from l.other l.initial.into l.at l.i l.into
