-- The low bits of the raised place are its steps.
use lib.Ieee.{of_bits}
use Rattle.floats.proofs.Units.{finite_widens}
use Rattle.displacement_map.proofs.StepCount.{raised_number, steps_count}
use Rattle.displacement_map.proofs.landing.steps.Goals as goal

pub float_to_float-raised : goal.float_to_float-raised
float_to_float-raised c = finite_widens c.args.place c.row_known-1.given c.requires.0

pub float_to_bits-raised : goal.float_to_bits-raised
unfolding of_bits
float_to_bits-raised c = raised_number c.args.place c.row_known-1.given c.requires

pub returns : goal.returns
unfolding of_bits
returns c = steps_count c.args.place c.wrapping_sub_u64.result c.row_known-1.given c.requires c.wrapping_sub_u64.type_inv c.wrapping_sub_u64.ensures.value
