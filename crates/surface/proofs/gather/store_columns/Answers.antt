-- The row's columns, then the one before them and the one after them.
use borrow.Author.Rules.{rules}
use Prim.Native.Nat.{◌+◌}
use mathlib.Core.Path.{◌∙◌}
use native.Mathlib.Omega.{arith}
use lib.Seq.{get_or-set_other}
use Rattle.surface.proofs.Widening.{stored_own, leans_are}
use Rattle.surface.proofs.gather.store_columns.Goals as goal

pub loop-i-preserved : goal.loop-i-preserved
loop-i-preserved c =
    record {
      held = rw (c.store.ensures.sums_are, c.store.ensures.above_are, c.store.ensures.below_are) (stored_own c.loop-i.invariant.held (c.loop-i.i + 1) (search rules) (search rules) (search rules) 1 (c.loop-i.i + 1 + 1) (λ i l m d. (omega arith, omega arith)) (c.args.row.now.strip.left + c.loop-i.i) (omega arith) (search rules) c.store.ensures.small);
      rest = λ k h. rw c.store.ensures.sums_are (get_or-set_other _ (c.loop-i.i + 1) k _ 0 (omega arith) ∙ c.loop-i.invariant.rest k h);
    }

pub returns-clause-normals : goal.returns-clause-normals
returns-clause-normals c = leans_are c.column_after.ensures.held
