-- `whole_away` meets its contract: the nearest whole number, and one more where the value reaches it and a half. Assumes nothing.
use Rattle.floats.proofs.Tests.{T_true, T_false}
use Rattle.floats.proofs.HalfAway.{bounded_widens, stays, rises}
use lib.Ieee.{of_bits}
use Rattle.floats.proofs.round.whole_away.Goals as goal

pub float_to_float-z : goal.float_to_float-z
float_to_float-z c = bounded_widens 2147483648 c.args.b c.row_known-1.given c.requires

pub returns-then-z-w : goal.returns-then-z-w
unfolding of_bits
returns-then-z-w c = stays c.args.b c.requires (T_true c.if-z-w.true)

pub returns-else-z-w : goal.returns-else-z-w
unfolding of_bits
returns-else-z-w c = rises c.args.b c.requires (T_false c.if-z-w.false)
