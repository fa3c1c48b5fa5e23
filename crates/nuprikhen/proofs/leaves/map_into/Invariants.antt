-- The elements before i are stored.
use Rattle.nuprikhen.specs.Inner.Mapped.{Images}
use Rattle.nuprikhen.proofs.leaves.map_into.Given as goal

abbrev pub invariant-loop-i : goal.invariant-loop-i
invariant-loop-i g l = Images (goal.F-post g l.f) l.xs l.out l.i
