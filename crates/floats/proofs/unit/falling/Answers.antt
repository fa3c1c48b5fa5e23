-- The order of plain floats is that of their units.
use Rattle.std.proofs.Common.{arith}
use Rattle.floats.proofs.Tests.{T_true, T_false}
use Rattle.floats.proofs.NearOne.{order_yes, order_no}
use Rattle.floats.proofs.unit.falling.Goals as goal

pub returns-then-b-a : goal.returns-then-b-a
returns-then-b-a c =
    let r = c.requires in
    let order = order_yes c.args.b c.args.a (T_true c.well_formed.1.0.1) (T_true c.well_formed.0.1) r.b_few.flat r.a_few.flat (T_true c.if-b-a.true) in
    record { hi_few = r.a_few; lo_few = r.b_few; hi_is = omega arith; lo_is = omega arith }

pub returns-else-b-a : goal.returns-else-b-a
returns-else-b-a c =
    let r = c.requires in
    let order = order_no c.args.b c.args.a (T_true c.well_formed.1.0.1) (T_true c.well_formed.0.1) r.b_few.flat r.a_few.flat (T_false c.if-b-a.false) in
    record { hi_few = r.b_few; lo_few = r.a_few; hi_is = omega arith; lo_is = omega arith }
