-- The contract is taken over from the Rattle function, of the operator that the number names.
use mathlib.Core.Path.{refl}
use Rattle.nuprikhen.proofs.Calls.{holds_as, filtered_called}
use Rattle.nuprikhen.proofs.nup_morphology.nup_morphology.Goals as goal

pub returns : goal.returns
returns c = (filtered_called refl refl c.apply_numbered.ensures.filtered c.from.ensures, holds_as refl refl refl refl c.apply_numbered.ensures.cleared)
