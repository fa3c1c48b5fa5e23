-- The test is the definition's.
use mathlib.Core.Path.{sym, ◌∙◌}
use Rattle.composite.proofs.pixel.unless_clear.Goals as goal

pub returns-then-near_zero : goal.returns-then-near_zero
returns-then-near_zero c = rw (sym c.near_zero.ensures ∙ c.if-near_zero.true) c.numbered.ensures

pub returns-else-near_zero : goal.returns-else-near_zero
returns-else-near_zero c = rw (sym c.near_zero.ensures ∙ c.if-near_zero.false)
