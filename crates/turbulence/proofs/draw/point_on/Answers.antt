-- The definition itself.
use mathlib.Core.Path.{refl}
use Rattle.turbulence.specs.Turbulence.{point_on}
use Rattle.turbulence.proofs.draw.point_on.Goals as goal

pub returns : goal.returns
unfolding point_on
returns c = refl
