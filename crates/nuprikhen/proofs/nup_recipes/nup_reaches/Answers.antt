-- A refused message stops the call; one that is taken is asked.
use mathlib.Core.Path.{refl}
use Rattle.nuprikhen.proofs.Recipes.{message_refused, reach_refused, reach_taken}
use Rattle.nuprikhen.proofs.nup_recipes.nup_reaches.Goals as goal

pub returns-in-Err : goal.returns-in-Err
returns-in-Err c = reach_refused _ _ _ (message_refused c.read.ensures refl c.in-Err.is) c.from.ensures

pub returns : goal.returns
returns c = reach_taken c.read.ensures refl c.in-Ok.is _ _ _ _ _ _ _ _ _ refl _ c.reaches_by_kind.ensures c.from-2.ensures
