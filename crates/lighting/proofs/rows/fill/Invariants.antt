-- Each turn stores what `f` makes of one more number.
use Prim.Native.Nat.{ℕ, ◌≤◌, ◌<◌}
use mathlib.Core.Path.{◌≡◌}
use lib.ListN.{length, get_or}
use lib.Ieee.{nan}
use Rattle.lighting.proofs.rows.fill.Given as goal

abbrev pub invariant-loop-i : goal.invariant-loop-i
invariant-loop-i g l = record {
  same : length l.places ≡ length l.initial.places;
  filled : (k : ℕ) → k < l.i → goal.F-post g l.f k (get_or l.initial.places k nan) (get_or l.places k nan);
  rest : (k : ℕ) → l.i ≤ k → get_or l.places k nan ≡ get_or l.initial.places k nan;
}
