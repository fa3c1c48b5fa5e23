-- The contract is taken over from the Rattle function, of the channels that the numbers name.
use mathlib.Core.Path.{refl}
use Rattle.nuprikhen.proofs.Calls.{filtered_called}
use Rattle.nuprikhen.proofs.nup_displacement_map.nup_displacement_map.Goals as goal

pub returns : goal.returns
returns c = filtered_called refl refl c.apply_numbered.ensures c.from.ensures
