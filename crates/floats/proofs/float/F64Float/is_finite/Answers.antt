-- What the library's test says.
use Rattle.std.proofs.Common.{◌∙◌}
use Rattle.floats.proofs.Ordered.{finite_is}
use Rattle.floats.proofs.float.F64Float.is_finite.Goals as goal

pub returns : goal.returns
returns c = c.is_finite.ensures.value ∙ finite_is c.args.self
