-- Each turn adds an octave, and what is left leads to the result.
use mathlib.Core.Path.{◌≡◌}
use lib.ListN.{length}
use lib.Ieee.{Float}
use Rattle.turbulence.specs.Inner.Rows.{RowAt}
use Rattle.turbulence.specs.Inner.Columns.{ColumnAt}
use Rattle.turbulence.proofs.Octaves.{halved, LeadsAt}
use Rattle.turbulence.proofs.noise.turbulence.Given as goal

abbrev pub invariant-loop-k : goal.invariant-loop-k
invariant-loop-k l =
    ((x y : Float) → ColumnAt l.tables x l.column → RowAt y l.row → LeadsAt l.fractal (length l.column) l.tables x y l.sums l.k)
    × (l.inverse ≡ halved l.k)
