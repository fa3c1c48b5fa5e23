-- The contract is taken over from the Rattle function.
use mathlib.Core.Path.{refl}
use Rattle.nuprikhen.proofs.Calls.{filtered_called}
use Rattle.nuprikhen.proofs.nup_lighting.nup_specular_lighting.Goals as goal

pub returns : goal.returns
returns c =
    let done = rw c.light_of.ensures at c.specular_lighting.ensures in
    filtered_called refl refl done c.from.ensures
