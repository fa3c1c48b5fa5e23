-- Beyond the sheet's edge its own sum stands again, and alphas of 0.
use borrow.Author.Rules.{rules}
use Prim.Native.Nat.{◌+◌, ◌-◌}
use mathlib.Core.Path.{◌∙◌}
use native.Mathlib.Omega.{arith}
use Rattle.surface.proofs.Widening.{alpha_first, same_sum, stored, stored_own}
use Rattle.surface.proofs.gather.column_before.Goals as goal

pub returns-then-row-eq0-clause-held : goal.returns-then-row-eq0-clause-held
returns-then-row-eq0-clause-held c =
    stored c.requires.own 0 (search rules) (search rules) (search rules) 0 (c.args.row.now.strip.count + 1) (λ i l m d. (omega arith, omega arith)) _ 0 0 (c.requires.own.sums_are 1 (omega arith) (omega arith) ∙ same_sum c.args.row.now 1 0 (omega arith)) (c.requires.own.small 1 (omega arith) (omega arith)) (alpha_first c.args.row.now _ 0 (omega arith)) (alpha_first c.args.row.now _ 0 (omega arith))

pub returns-else-row-eq0-clause-held : goal.returns-else-row-eq0-clause-held
returns-else-row-eq0-clause-held c =
    rw (c.store.ensures.sums_are, c.store.ensures.above_are, c.store.ensures.below_are) (stored_own c.requires.own 0 (search rules) (search rules) (search rules) 0 (c.args.row.now.strip.count + 1) (λ i l m d. (omega arith, omega arith)) (c.args.row.now.strip.left - 1) (omega arith) (omega arith) c.store.ensures.small)
