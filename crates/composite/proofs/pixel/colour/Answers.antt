-- The bounded number is scaled and cut.
use mathlib.Core.Path.{ap, ◌∙◌}
use Rattle.composite.specs.Arithmetic.{scaled}
use Rattle.composite.proofs.pixel.colour.Goals as goal

pub returns : goal.returns
unfolding scaled
returns c = c.scaled_to_byte.ensures ∙ ap scaled c.calc.ensures
