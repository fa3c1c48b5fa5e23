-- Each step at a value within the bound.
use lib.Ieee.{of_bits}
use Rattle.floats.proofs.Tests.{T_true}
use Rattle.turbulence.proofs.Settled.{no_nan, pattern_least, parts_fit, parts_are}
use Rattle.turbulence.proofs.draw.parts_of.Goals as goal

pub float_to_bits-result : goal.float_to_bits-result
unfolding of_bits
float_to_bits-result c = no_nan c.args.value (T_true c.well_formed.0.1) c.requires

pub overflow_sub-result : goal.overflow_sub-result
unfolding of_bits
overflow_sub-result c = pattern_least c.args.value (T_true c.well_formed.0.1) c.requires

pub overflow_add-result : goal.overflow_add-result
unfolding of_bits
overflow_add-result c = record { fits = parts_fit c.args.value (T_true c.well_formed.0.1) c.requires }

pub returns : goal.returns
unfolding of_bits
returns c = parts_are c.args.value (T_true c.well_formed.0.1) c.requires
