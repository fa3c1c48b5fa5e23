-- The definition itself.
use mathlib.Core.Path.{refl}
use Rattle.turbulence.specs.Noise.{lerp}
use Rattle.turbulence.proofs.noise.lerp.Goals as goal

pub returns : goal.returns
unfolding lerp
returns c = refl
