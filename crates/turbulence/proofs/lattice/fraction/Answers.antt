-- The whole part, taken off.
use mathlib.Core.Path.{ap}
use lib.Ieee.{binary64, sub}
use Rattle.turbulence.specs.Noise.{fraction}
use Rattle.turbulence.proofs.lattice.fraction.Goals as goal

pub returns : goal.returns
unfolding fraction
returns c = ap (sub binary64 c.args.t) c.whole_part.ensures
