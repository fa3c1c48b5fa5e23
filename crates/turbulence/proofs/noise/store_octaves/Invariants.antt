-- Each turn stores the next octave.
use Prim.Native.Nat.{ℕ, ◌<◌}
use mathlib.Core.Path.{◌≡◌}
use lib.ListN.{get_or}
use Rattle.turbulence.specs.Inner.Rows.{doubled}
use Rattle.turbulence.proofs.noise.store_octaves.Given as goal

abbrev pub invariant-loop-octave : goal.invariant-loop-octave
invariant-loop-octave g l =
    ((k : ℕ) (z : g.row.T.Denot) → k < l.octave-index → g.F.Fn.post l.at (doubled k l.start, tt) (get_or l.octaves k z))
    × (l.position ≡ doubled l.octave-index l.start)
