-- Each turn stores the next pair, and carries the state after it.
use mathlib.Core.Path.{◌≡◌}
use lib.Ieee.{nan}
use Rattle.turbulence.specs.Random.{State}
use Rattle.turbulence.specs.Gradient.{gradient_x, gradient_y, after_pairs}
use Rattle.turbulence.proofs.Filled.{Filled}
use Rattle.turbulence.proofs.tables.draw_pairs.Given as goal

abbrev pub invariant-loop-d : goal.invariant-loop-d
invariant-loop-d l = Filled nan (λ k. gradient_x (after_pairs k l.state)) 1024 l.pairs.x l.d × Filled nan (λ k. gradient_y (after_pairs k l.state)) 1024 l.pairs.y l.d × (l.pairs.state ≡ after_pairs l.d l.state) × State l.pairs.state
