-- The definition itself.
use mathlib.Core.Path.{refl}
use Rattle.turbulence.specs.Noise.{s_curve}
use Rattle.turbulence.proofs.noise.s_curve.Goals as goal

pub returns : goal.returns
unfolding s_curve
returns c = refl
