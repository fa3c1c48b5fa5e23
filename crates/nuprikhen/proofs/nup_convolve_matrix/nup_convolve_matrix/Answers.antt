-- The contract is taken over from the Rattle function, of the matrix that the numbers make.
use mathlib.Core.Path.{refl}
use Rattle.nuprikhen.proofs.Calls.{holds_as, filtered_called}
use Rattle.nuprikhen.proofs.nup_convolve_matrix.nup_convolve_matrix.Goals as goal

pub returns : goal.returns
returns c =
    let done = rw (c.all_of.ensures, c.edge_of.ensures, c.test_named.ensures) at c.apply_named.ensures in
    (filtered_called refl refl done.filtered c.from.ensures, holds_as refl refl refl refl done.cleared)
