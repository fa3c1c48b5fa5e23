use mathlib.Core.Path.{refl}
use Rattle.turbulence.specs.Random.{next}
use Rattle.turbulence.proofs.States.{next_state}
use Rattle.turbulence.proofs.random.random.Goals as goal

pub returns : goal.returns
unfolding next
returns c = let same = c.from.ensures in rw same (refl, next_state c.requires)
