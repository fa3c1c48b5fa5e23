-- The bytes passed are merged, and the others are as they were.
use borrow.Author.Rules.{rules}
use mathlib.Core.Path.{◌≡◌}
use native.Mathlib.Omega.{arith}
use Rattle.morphology.proofs.Merging.{merged_none, merged_more}
use Rattle.morphology.proofs.spread.merge.Goals as goal

pub loop-i-init : goal.loop-i-init
loop-i-init c = (search rules, merged_none _ _ _ _ _)

pub loop-i-preserved : goal.loop-i-preserved
loop-i-preserved c = (search rules, merged_more _ _ _ _ _ c.loop-i.invariant.1 (search rules) c.more_extreme.ensures)

pub returns : goal.returns
returns c =
    let z : c.loop-i.i ≡ c.args.n = omega arith in
    rw z at c.loop-i.invariant.1
