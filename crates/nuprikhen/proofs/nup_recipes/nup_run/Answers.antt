-- A refused message stops the call; one that is taken is run.
use mathlib.Core.Path.{refl}
use Rattle.nuprikhen.proofs.Recipes.{message_refused, run_refused, run_left}
use Rattle.nuprikhen.proofs.nup_recipes.nup_run.Goals as goal

pub returns-in-Err : goal.returns-in-Err
returns-in-Err c = run_refused _ _ _ (message_refused c.read.ensures refl c.in-Err.is) _ _ _ _ _ _ c.from.ensures refl refl

pub returns : goal.returns
returns c =
    run_left c.read.ensures refl c.in-Ok.is _ _ _ _ _ _ _ _ _ c.run_by_kind.ensures c.from-2.ensures (record { same = refl; steps = refl; were = refl; leaves = refl; scratch = refl; clears = refl })
