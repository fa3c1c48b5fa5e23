-- Either sign is a range.
use mathlib.Core.Path.{sym, ◌∙◌}
use lib.Ieee.{of_bits, neg}
use Rattle.convolve_matrix.specs.ConvolveMatrix.{is_divisor}
use Rattle.convolve_matrix.proofs.is_divisor.Goals as goal

pub returns-then-within : goal.returns-then-within
unfolding is_divisor of_bits neg
returns-then-within c = rw (sym c.within.ensures ∙ c.if-within.true) c.if-within.true

pub returns-else-within : goal.returns-else-within
unfolding is_divisor of_bits neg
returns-else-within c = rw (sym c.within.ensures ∙ c.if-within.false) c.within-else-within.ensures
