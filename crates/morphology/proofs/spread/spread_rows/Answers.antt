-- Each turn spreads one row; the rows below it are spread already, and the others are as in src.
use borrow.Author.Rules.{rules}
use Prim.Native.Nat.{◌*◌}
use mathlib.Core.Path.{◌≡◌}
use native.Mathlib.Omega.{arith}
use Rattle.morphology.proofs.Spreading.{shift_inside}
use Rattle.morphology.proofs.Passes.{rows_none, row_lines, rows_more}
use Rattle.morphology.proofs.spread.spread_rows.Goals as goal

pub loop-y-init : goal.loop-y-init
loop-y-init c = rows_none _ _ _ _ _ _ c.requires.scratch_value

pub overflow_mul-line-in-loop-y : goal.overflow_mul-line-in-loop-y
overflow_mul-line-in-loop-y c = let l = shift_inside (4 * c.args.width) c.loop-y.y c.args.height (search rules) in search rules

pub spread-requires : goal.spread-requires
spread-requires c =
    row_lines _ _ _ _ _ _ _ c.requires.src_len c.loop-y.invariant c.loop-y-test.true c.requires.sized.1

pub loop-y-preserved : goal.loop-y-preserved
loop-y-preserved c =
    rows_more _ _ _ _ _ _ _ c.requires.src_len c.loop-y.invariant c.loop-y-test.true _ c.spread.ensures

pub returns : goal.returns
returns c =
    let z : c.loop-y.y ≡ c.args.height = omega arith in
    rw z at c.loop-y.invariant
