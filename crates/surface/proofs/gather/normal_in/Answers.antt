-- The definition, whose parts the calls give.
use Rattle.surface.specs.Surface.{lean_factor}
use Rattle.surface.proofs.gather.normal_in.Goals as goal

pub returns : goal.returns
unfolding lean_factor
returns c =
    rw (c.factor.ensures, c.factor-2.ensures, c.at_edge-side.ensures, c.at_edge-end.ensures, c.column.ensures, c.turned.ensures, c.turned-2.ensures, c.weighted_in-lower.ensures.is, c.weighted_in-higher.ensures.is)
