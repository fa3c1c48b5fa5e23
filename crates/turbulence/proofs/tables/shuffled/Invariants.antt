-- The invariant: what is left to exchange leads to the order.
use Prim.Native.Nat.{◌-◌, ◌≤◌}
use mathlib.Core.Path.{◌≡◌}
use Rattle.turbulence.specs.Random.{State}
use Rattle.turbulence.specs.Selector.{shuffle, order}
use Rattle.turbulence.proofs.tables.shuffled.Given as goal

abbrev pub invariant-loop-i : goal.invariant-loop-i
invariant-loop-i l = State l.drawn × (1 ≤ l.i) × (shuffle (l.i - 1) l.drawn l.places ≡ order l.state)
