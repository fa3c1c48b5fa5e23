-- Each turn stores one more column.
use Prim.Native.Nat.{ℕ, ◌+◌, ◌≤◌}
use mathlib.Core.Path.{◌≡◌}
use lib.ListN.{get_or}
use Rattle.surface.specs.Inner.Rows.{Holds}
use Rattle.surface.proofs.gather.store_columns.Given as goal

abbrev pub invariant-loop-i : goal.invariant-loop-i
invariant-loop-i l = record {
  held : Holds l.row 1 (l.i + 1) l.sums l.above l.below;
  rest : (k : ℕ) → l.row.strip.count + 2 ≤ k → get_or l.sums k 0 ≡ get_or l.initial.sums k 0;
}
