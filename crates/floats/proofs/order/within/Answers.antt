-- Each test is the order of the values.
use Rattle.std.proofs.Common.{◌≡◌, true, false, sym, ◌∙◌}
use lib.Ieee.{le}
use Rattle.floats.proofs.Ordered.{at_most}
use Rattle.floats.proofs.order.within.Goals as goal

pub returns-then-le : goal.returns-then-le
returns-then-le g c =
    let first : le (g.F.Float.value c.args.lo) (g.F.Float.value c.args.x) ≡ true = sym (at_most _ _ g.met.F.Float.order c.args.lo c.args.x) ∙ sym c.le.ensures ∙ c.if-le.true in
    simp first (c.le-then-le.ensures ∙ at_most _ _ g.met.F.Float.order c.args.x c.args.hi)

pub returns-else-le : goal.returns-else-le
returns-else-le g c =
    let first : le (g.F.Float.value c.args.lo) (g.F.Float.value c.args.x) ≡ false = sym (at_most _ _ g.met.F.Float.order c.args.lo c.args.x) ∙ sym c.le.ensures ∙ c.if-le.false in
    simp first c.if-le.false
