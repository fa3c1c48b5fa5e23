-- Words of the private functions' contracts: where a position lies on the lattice.
use Rattle.std.specs.Prelude.{◌<◌, ◌≡◌, Float}
use Rattle.turbulence.specs.declared.lattice.Place.{Place}
use Rattle.turbulence.specs.Noise.{cell, fraction}

-- p is the place of t
pub record Placed (t : Float) (p : Place) : Type 0 where
  pub cell_is : p.cell ≡ cell t
  pub fraction_is : p.fraction ≡ fraction t
  pub inside : p.cell < 256
