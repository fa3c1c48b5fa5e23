-- The question goes back from step to step as the definition does.
use Rattle.std.proofs.Common.{refl, sym, ◌∙◌}
use Rattle.filter.specs.Inner.Engine.{reaches_at}
use Rattle.filter.proofs.Reaching.{reaches_back}
use Rattle.filter.proofs.reach.+slot_reaches.Goals as goal

pub returns-then-n-eq0 : goal.returns-then-n-eq0
unfolding reaches_at
returns-then-n-eq0 t c = rw c.if-n-eq0.true

pub returns-then-slot_reaches : goal.returns-then-slot_reaches
returns-then-slot_reaches t c =
    let back = reaches_back _ _ _ c.if-n-eq0.false c.origins.ensures c.in-Two.is in
    back (rw (sym c.slot_reaches-in-Two.ensures ∙ c.if-slot_reaches.true) c.if-slot_reaches.true)

pub returns-in-None : goal.returns-in-None
returns-in-None t c = reaches_back _ _ _ c.if-n-eq0.false c.origins.ensures c.in-None.is refl

pub returns-in-One : goal.returns-in-One
returns-in-One t c = reaches_back _ _ _ c.if-n-eq0.false c.origins.ensures c.in-One.is c.slot_reaches.ensures

pub returns-else-slot_reaches : goal.returns-else-slot_reaches
returns-else-slot_reaches t c =
    let back = reaches_back _ _ _ c.if-n-eq0.false c.origins.ensures c.in-Two.is in
    back (rw (sym c.slot_reaches-in-Two.ensures ∙ c.if-slot_reaches.false) c.slot_reaches-else-slot_reaches.ensures)
