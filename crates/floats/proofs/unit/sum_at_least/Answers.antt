-- `sum_at_least` meets its contract: mid alone, or twice mid, decides, or the difference is exact. Assumes nothing.
use Rattle.floats.proofs.Tests.{T_true, T_false}
use Rattle.floats.proofs.SumTests.{mid_reaches, twice_mid_below, least_tested}
use Rattle.floats.proofs.unit.sum_at_least.Goals as goal

pub returns-then-least-mid : goal.returns-then-least-mid
returns-then-least-mid c =
    let a = c.args in
    mid_reaches a.mid a.lo a.least (T_true c.well_formed.0.1) (T_true c.well_formed.1.0.1) (T_true c.well_formed.1.1.0.1) c.requires.mid_plain c.requires.lo_plain c.requires.least_plain c.requires.falling.0 (T_true c.if-least-mid.true)

pub returns-then-mid-least : goal.returns-then-mid-least
returns-then-mid-least c =
    let a = c.args in
    twice_mid_below a.mid a.lo a.least (T_true c.well_formed.0.1) (T_true c.well_formed.1.0.1) (T_true c.well_formed.1.1.0.1) c.requires.mid_plain c.requires.lo_plain c.requires.least_plain c.requires.falling.0 c.requires.falling.1 (T_true c.if-mid-least.true)

pub returns-else-mid-least : goal.returns-else-mid-least
returns-else-mid-least c =
    let a = c.args in
    least_tested a.mid a.lo a.least (T_true c.well_formed.0.1) (T_true c.well_formed.1.0.1) (T_true c.well_formed.1.1.0.1) c.requires.mid_plain c.requires.lo_plain c.requires.least_plain c.requires.falling.0 c.requires.falling.1 (T_false c.if-least-mid.false) (T_false c.if-mid-least.false)
