-- The definition, read out of the two tables.
use mathlib.Core.Path.{refl}
use Rattle.turbulence.specs.Noise.{along}
use Rattle.turbulence.proofs.tables.Tables.along.Goals as goal

pub returns : goal.returns
unfolding along
returns c = refl
