-- The short way within the bound, else each part by its call.
use lib.Ieee.{of_bits}
use Rattle.floats.proofs.Tests.{T_true}
use Rattle.turbulence.proofs.Nearest.{up_to_end}
use Rattle.turbulence.proofs.lattice.place_of.Goals as goal

pub near_place-requires : goal.near_place-requires
unfolding of_bits
near_place-requires c = up_to_end c.args.t (T_true c.if-t.true) (T_true c.if-t-2.true)

pub returns-else-t : goal.returns-else-t
returns-else-t c = record { cell_is = c.cell.ensures.0; fraction_is = c.fraction.ensures; inside = c.cell.ensures.1 }
