-- The numbers passed are made.
use Rattle.std.proofs.Common.{◌≡◌, ◌<◌, get_or, ℕ}
use Rattle.std.specs.Float.{nan}
use Rattle.floats.specs.Channel.{normalized}
use Rattle.convolve_matrix.proofs.rows.to_numbers.Given as goal

abbrev pub invariant-loop-i : goal.invariant-loop-i
invariant-loop-i l = (k : ℕ) → k < l.i → get_or l.numbers k nan ≡ normalized (get_or l.bytes k 0)
