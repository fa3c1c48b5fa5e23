-- The code is the formula, in its order.
use Rattle.composite.specs.Arithmetic.{calc}
use Rattle.composite.proofs.pixel.calc.Goals as goal

pub returns : goal.returns
unfolding calc
returns c =
    rw (← c.normalized-i1.ensures, ← c.normalized-i2.ensures) c.bound.ensures
