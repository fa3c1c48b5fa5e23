-- `abs64` meets its contract: the pattern without the sign's bit. Assumes nothing.
use Rattle.floats.proofs.Tests.{T_true, T_false}
use Rattle.floats.proofs.Ordered.{equals_itself}
use Rattle.floats.proofs.Absolutes.{without_sign, still_a_number, no_number}
use Rattle.floats.proofs.order.abs64.Goals as goal

pub float_from_bits-result : goal.float_from_bits-result
float_from_bits-result c = still_a_number c.args.x (T_true c.well_formed.0.1) (equals_itself c.args.x (T_true c.if-x.true))

pub returns-then-x : goal.returns-then-x
returns-then-x c = without_sign c.args.x (T_true c.well_formed.0.1)

pub returns-else-x : goal.returns-else-x
returns-else-x c = no_number c.args.x (T_false c.if-x.false)
