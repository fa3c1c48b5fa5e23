-- The limit's negative is the definition's.
use lib.Ieee.{of_bits, neg}
use Rattle.lighting.proofs.is_scale.Goals as goal

pub returns : goal.returns
unfolding of_bits neg
returns c = c.within.ensures
