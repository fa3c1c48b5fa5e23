-- No step before step i was refused.
use mathlib.Core.Path.{◌≡◌, sym, ap, ◌∙◌}
use native.Mathlib.Omega.{arith}
use Rattle.sheet.proofs.Answers.{denied, allowed}
use Rattle.message.specs.Answers.{ranges_answer}
use Rattle.message.proofs.FirstSteps.{none_done, one_more_done, refused_at}
use Rattle.message.proofs.tests.test_ranges.Goals as goal

pub loop-i-init : goal.loop-i-init
loop-i-init c = none_done _ _

pub returns-then-not-ranges_in : goal.returns-then-not-ranges_in
returns-then-not-ranges_in c = refused_at _ _ _ c.loop-i.invariant _ c.loop-i-test.true (denied c.ranges_in.ensures c.if-not-ranges_in.true)

pub loop-i-preserved : goal.loop-i-preserved
loop-i-preserved c = one_more_done _ _ _ c.loop-i.invariant (allowed c.ranges_in.ensures c.if-not-ranges_in.false)

pub returns : goal.returns
returns c =
    let z : c.loop-i.i ≡ c.args.recipe.count = omega arith in
    sym c.loop-i.invariant ∙ ap (ranges_answer _ _) z
