-- A seed's gradients, and the selector that is shuffled by the states after theirs.
use Rattle.std.specs.Prelude.{ℕ, List, ℤ, Float}
use Rattle.turbulence.specs.Random.{start_of}
use Rattle.turbulence.specs.Selector.{selector}
use Rattle.turbulence.specs.Gradient.{after_pairs, drawn_x, drawn_y, side_by_side}

unfoldable pub selector_of : ℤ → List ℕ
selector_of seed = selector (after_pairs 1024 (start_of seed))

unfoldable pub gradients_x : ℤ → List Float
gradients_x seed = side_by_side (drawn_x (start_of seed))

unfoldable pub gradients_y : ℤ → List Float
gradients_y seed = side_by_side (drawn_y (start_of seed))
