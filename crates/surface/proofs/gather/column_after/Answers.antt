-- Beyond the sheet's edge its own sum stands again, and alphas of 0.
use borrow.Author.Rules.{rules}
use Prim.Native.Nat.{◌+◌}
use mathlib.Core.Path.{◌∙◌}
use native.Mathlib.Omega.{arith}
use Rattle.surface.proofs.Widening.{alpha_last, same_sum, stored, stored_own}
use Rattle.surface.proofs.gather.column_after.Goals as goal

pub returns-then-x-row-clause-held : goal.returns-then-x-row-clause-held
returns-then-x-row-clause-held c =
    rw (c.store.ensures.sums_are, c.store.ensures.above_are, c.store.ensures.below_are) (stored_own c.requires.own (c.args.row.now.strip.count + 1) (search rules) (search rules) (search rules) 0 (c.args.row.now.strip.count + 2) (λ i l m d. (omega arith, omega arith)) (c.args.row.now.strip.left + c.args.row.now.strip.count) (omega arith) c.if-x-row.true c.store.ensures.small)

pub returns-else-x-row-clause-held : goal.returns-else-x-row-clause-held
returns-else-x-row-clause-held c =
    stored c.requires.own (c.args.row.now.strip.count + 1) (search rules) (search rules) (search rules) 0 (c.args.row.now.strip.count + 2) (λ i l m d. (omega arith, omega arith)) _ 0 0 (c.requires.own.sums_are c.args.row.now.strip.count (omega arith) (omega arith) ∙ same_sum c.args.row.now c.args.row.now.strip.count (c.args.row.now.strip.count + 1) (omega arith)) (c.requires.own.small c.args.row.now.strip.count (omega arith) (omega arith)) (alpha_last c.args.row.now _ (c.args.row.now.strip.count + 1) (omega arith)) (alpha_last c.args.row.now _ (c.args.row.now.strip.count + 1) (omega arith))
