-- The contract is taken over from the Rattle function.
use mathlib.Core.Path.{refl}
use mir.Syntax.{w32}
use mir.ValLaws.{to_z-of_z}
use Rattle.nuprikhen.proofs.Calls.{filtered_called}
use Rattle.nuprikhen.proofs.nup_turbulence.nup_turbulence.Goals as goal

pub returns : goal.returns
returns c =
    let e = to_z-of_z w32 c.args.seed c.ranges.seed in
    filtered_called refl refl (rw e at c.apply_named.ensures) c.from.ensures
