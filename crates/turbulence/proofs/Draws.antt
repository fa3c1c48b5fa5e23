-- The state after one more pair.
use Prim.Native.Nat.{ℕ, ◌+◌}
use mathlib.Core.Path.{◌≡◌, ap, ◌∙◌}
use native.Mathlib.Numerals.{add-one}
use Rattle.turbulence.specs.Random.{next}
use Rattle.turbulence.specs.Gradient.{after_pairs}

pub after_one : (d s t u : ℕ) → t ≡ after_pairs d s → u ≡ next (next t) → u ≡ after_pairs (d + 1) s
unfolding after_pairs
after_one d s t u e f = rw add-one (f ∙ ap (λ (x : ℕ). next (next x)) e)
