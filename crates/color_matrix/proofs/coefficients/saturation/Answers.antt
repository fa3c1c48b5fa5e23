-- The code is the definition of a saturation that is not below 0.
use mathlib.Core.Path.{ap}
use Rattle.color_matrix.specs.Coefficients.{saturation}
use Rattle.color_matrix.proofs.coefficients.saturation.Goals as goal

pub returns : goal.returns
returns c = ap saturation c.at_least_zero-v.ensures
