-- The two ends are the same values as numbers.
use lib.Ieee.{of_bits, neg}
use Rattle.displacement_map.proofs.in_scale.Goals as goal

pub returns : goal.returns
unfolding of_bits neg
returns c = c.within.ensures
