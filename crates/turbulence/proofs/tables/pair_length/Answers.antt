use Rattle.turbulence.specs.Gradient.{pair_length}
use Rattle.turbulence.proofs.tables.pair_length.Goals as goal

pub returns : goal.returns
unfolding pair_length
returns c = c.sqrt.ensures
