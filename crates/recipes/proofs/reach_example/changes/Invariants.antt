-- The source keeps its length.
use Rattle.std.proofs.Common.{length, ◌≡◌}
use Rattle.recipes.proofs.reach_example.changes.Given as goal

abbrev pub invariant-loop-value : goal.invariant-loop-value
invariant-loop-value l = length l.source ≡ 20
