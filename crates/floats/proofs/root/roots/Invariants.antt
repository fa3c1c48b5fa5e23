-- Each turn makes one more root.
use Rattle.std.proofs.Common.{◌≡◌, map, ◌++◌, take, drop}
use lib.Ieee.{binary32}
use Rattle.floats.specs.Root.{sqrt_of}
use Rattle.floats.proofs.root.roots.Given as goal

abbrev pub invariant-loop-i : goal.invariant-loop-i
invariant-loop-i l = l.values ≡ map (sqrt_of binary32) (take l.i l.initial.values) ++ drop l.i l.initial.values
