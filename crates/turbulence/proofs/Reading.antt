-- What a byte of the result reads: nothing. The result has no sheet among its arguments.
use Prim.Native.Nat.{ℕ, ◌*◌}
use mathlib.Core.Path.{◌≡◌}
use lib.ListN.{length}
use Rattle.sheet.proofs.Tabulated.{length_tabulate}
use Rattle.turbulence.specs.declared.Turbulence.{Turbulence}
use Rattle.turbulence.specs.Turbulence.{turbulence_at, drawn}
use Rattle.turbulence.specs.Reads.{Reads}

pub length_drawn : (t : Turbulence) (w h : ℕ) → length (drawn t w h) ≡ 4 * w * h
unfolding drawn
length_drawn t w h = length_tabulate (4 * w * h) (turbulence_at t w)

pub reads_nothing : (k j : ℕ) → Reads k j → ⊥
reads_nothing k j r = r
