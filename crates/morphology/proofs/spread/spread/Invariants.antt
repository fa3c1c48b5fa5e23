-- Each turn takes in one neighbour more on either side, so the window grows with the turns.
use Prim.Native.Nat.{◌*◌, ◌≤◌}
use mathlib.Core.Path.{◌≡◌}
use Rattle.morphology.specs.Inner.Lines.{Spread}
use Rattle.morphology.proofs.spread.spread.Given as goal

abbrev pub invariant-loop-reached : goal.invariant-loop-reached
invariant-loop-reached l = (l.reached ≤ l.radius) × ((l.total ≡ l.step * l.count) × Spread l.operator l.reached l.step l.count l.first l.from l.initial.into l.into)
