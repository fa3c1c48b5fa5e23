-- The limit's negative is the definition's.
use lib.Ieee.{of_bits, neg}
use Rattle.lighting.proofs.light.is_place.Goals as goal

pub returns : goal.returns
unfolding of_bits neg
returns c = c.within.ensures
