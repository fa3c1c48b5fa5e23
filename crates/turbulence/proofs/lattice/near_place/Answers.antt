-- Each step at a position within the bound.
use lib.Ieee.{of_bits}
use Rattle.floats.proofs.Tests.{T_true, T_false}
use Rattle.turbulence.proofs.Nearest.{no_nan, pattern_least, some_below, place_above, place_at}
use Rattle.turbulence.proofs.lattice.near_place.Goals as goal

pub float_to_bits-n : goal.float_to_bits-n
unfolding of_bits
float_to_bits-n c = no_nan c.args.t c.requires

pub overflow_sub-n : goal.overflow_sub-n
unfolding of_bits
overflow_sub-n c = pattern_least c.args.t c.requires

pub overflow_sub-below : goal.overflow_sub-below
unfolding of_bits
overflow_sub-below c = some_below c.args.t c.requires (T_true c.if-t-nearest.true)

pub returns-then-t-nearest : goal.returns-then-t-nearest
unfolding of_bits
returns-then-t-nearest c = place_above c.args.t c.requires (T_true c.if-t-nearest.true)

pub returns-else-t-nearest : goal.returns-else-t-nearest
unfolding of_bits
returns-else-t-nearest c = place_at c.args.t c.requires (T_false c.if-t-nearest.false)
