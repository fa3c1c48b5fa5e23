-- The new alpha decides whether the pixel is clear.
use Rattle.floats.specs.Order.{near_zero}
use Rattle.composite.proofs.Bytes.{cleared_channels}
use Rattle.composite.proofs.pixel.composed.Goals as goal

pub returns : goal.returns
returns c =
    let a = rw (c.alpha.ensures, c.alpha-2.ensures) at c.calc-a.ensures in
    rw (← a) (cleared_channels (near_zero c.calc-a.result) c.with_alpha.ensures c.unless_clear.ensures)
