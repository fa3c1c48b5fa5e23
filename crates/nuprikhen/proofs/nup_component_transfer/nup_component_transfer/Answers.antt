-- The contract is taken over from the Rattle function.
use mathlib.Core.Path.{refl}
use Rattle.nuprikhen.proofs.Calls.{filtered_called}
use Rattle.nuprikhen.proofs.nup_component_transfer.nup_component_transfer.Goals as goal

pub returns : goal.returns
returns c = filtered_called refl refl c.apply_numbered.ensures c.from.ensures
