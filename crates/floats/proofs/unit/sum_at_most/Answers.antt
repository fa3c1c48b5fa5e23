-- `sum_at_most` meets its contract: what is left after mid, exact or too large to matter. Assumes nothing.
use Rattle.std.proofs.Common.{◌∙◌}
use Rattle.floats.proofs.Tests.{T_true, T_false}
use Rattle.floats.proofs.SumTests.{most_tested, mid_above}
use Rattle.floats.proofs.unit.sum_at_most.Goals as goal

pub returns-then-mid-most : goal.returns-then-mid-most
returns-then-mid-most c =
    let a = c.args in
    most_tested a.mid a.lo a.most (T_true c.well_formed.0.1) (T_true c.well_formed.1.0.1) (T_true c.well_formed.1.1.0.1) c.requires.mid_plain c.requires.lo_plain c.requires.most_plain c.requires.falling (T_true c.if-mid-most.true)

pub returns-else-mid-most : goal.returns-else-mid-most
returns-else-mid-most c =
    let a = c.args in
    c.if-mid-most.false
    ∙ mid_above a.mid a.lo a.most (T_true c.well_formed.0.1) (T_true c.well_formed.1.0.1) (T_true c.well_formed.1.1.0.1) c.requires.mid_plain c.requires.lo_plain c.requires.most_plain c.requires.falling (T_false c.if-mid-most.false)
