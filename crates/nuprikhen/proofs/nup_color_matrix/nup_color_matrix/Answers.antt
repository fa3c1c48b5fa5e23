-- The matrix is of all the lent numbers.
use mathlib.Core.Path.{refl}
use Rattle.nuprikhen.proofs.Calls.{filtered_called}
use Rattle.nuprikhen.proofs.nup_color_matrix.nup_color_matrix.Goals as goal

pub returns : goal.returns
returns c =
    let all = rw c.all_of.ensures at c.apply.ensures in
    filtered_called refl refl all c.from.ensures
