-- From 0 to the value with bits 4.
use Rattle.std.proofs.Common.{◌∙◌}
use lib.Ieee.{of_bits, nan_bits}
use Rattle.floats.proofs.Tests.{T_true}
use Rattle.floats.proofs.NearZero.{near_zero_is}
use Rattle.floats.proofs.order.near_zero.Goals as goal

pub float_from_bits-within : goal.float_from_bits-within
unfolding nan_bits
float_from_bits-within c = tt

pub returns : goal.returns
unfolding of_bits
returns c = c.within.ensures ∙ near_zero_is c.args.x (T_true c.well_formed.0.1)
