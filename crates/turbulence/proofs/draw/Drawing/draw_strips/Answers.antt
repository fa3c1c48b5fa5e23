-- Each turn draws one strip.
use Prim.Native.Nat.{◌+◌}
use mathlib.Core.Path.{◌≡◌, ◌∙◌}
use native.Mathlib.Omega.{arith}
use Rattle.sheet.proofs.Strips.{worked_none, worked_strip, worked_next, worked_all}
use Rattle.turbulence.proofs.draw.Drawing.draw_strips.Goals as goal

pub loop-first-init : goal.loop-first-init
loop-first-init c = worked_none _ _ _

pub draw_rows-requires-clause-before : goal.draw_rows-requires-clause-before
draw_rows-requires-clause-before c = worked_strip c.strip_from-count.result c.loop-first.invariant

pub loop-first-preserved : goal.loop-first-preserved
loop-first-preserved c =
    let same = c.draw_rows.ensures.same ∙ c.loop-first.auto.dest ∙ c.requires.long in
    let whole : c.loop-first.first + c.strip_from-count.result ≡ c.loop-first.first + 512 = omega arith in
    rw whole at (worked_next c.args.width c.args.height c.requires.sized.wide same c.draw_rows.ensures.worked)

pub returns : goal.returns
returns c = worked_all c.args.width c.args.height c.requires.sized.wide (c.loop-first.auto.dest ∙ c.requires.long) c.loop-first.invariant c.loop-first-test.false

-- after the last strip
pub returns-2 : goal.returns-2
returns-2 c =
    let same = c.draw_rows.ensures.same ∙ c.loop-first.auto.dest ∙ c.requires.long in
    worked_all c.args.width c.args.height c.requires.sized.wide same (worked_next c.args.width c.args.height c.requires.sized.wide same c.draw_rows.ensures.worked) (omega arith)
