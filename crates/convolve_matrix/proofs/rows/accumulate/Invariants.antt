-- The sums passed have grown, and the others are as they were.
use Rattle.std.proofs.Common.{◌≡◌, ◌<◌, ◌≤◌, get_or, ℕ}
use Rattle.std.specs.Float.{nan}
use Rattle.floats.specs.Operators.{◌⊕◌, ◌⊗◌}
use Rattle.convolve_matrix.proofs.rows.accumulate.Given as goal

abbrev pub invariant-loop-i : goal.invariant-loop-i
invariant-loop-i l = record {
  grown : (k : ℕ) → k < l.i → get_or l.sums k nan ≡ get_or l.initial.sums k nan ⊕ get_or l.numbers k nan ⊗ l.k;
  rest : (k : ℕ) → l.i ≤ k → get_or l.sums k nan ≡ get_or l.initial.sums k nan;
}
