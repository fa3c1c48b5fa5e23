-- The step writes the slot, or leaves it as it was.
use mathlib.Core.Path.{ap, ◌∙◌}
use borrow.Author.Tests.{eq-eqb, ne_eqb}
use Rattle.filter.specs.Inner.Engine.{each_once, origins_of}
use Rattle.filter.proofs.reach.origins.Goals as goal

pub returns-then-slot-step : goal.returns-then-slot-step
unfolding origins_of
returns-then-slot-step c = rw (ne_eqb _ _ c.if-slot-step.true)

pub returns : goal.returns
unfolding origins_of
returns c = rw (eq-eqb _ _ c.if-slot-step.false) (c.each_once.ensures ∙ ap each_once c.inputs.ensures)
