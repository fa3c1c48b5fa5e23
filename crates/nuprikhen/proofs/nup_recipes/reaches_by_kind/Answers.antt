-- A number that names no kind is refused, and any other is asked by its kind.
use Rattle.sheet.proofs.Answers.{passed_on}
use Rattle.nuprikhen.proofs.Recipes.{reaches_no_kind, reaches_kind}
use Rattle.nuprikhen.proofs.nup_recipes.reaches_by_kind.Goals as goal

pub returns-in_err-kind_of : goal.returns-in_err-kind_of
returns-in_err-kind_of c = reaches_no_kind _ _ (rw c.in_err-kind_of.was at c.kind_of.ensures) (passed_on _ c.from_residual.ensures.1)

pub returns : goal.returns
returns c =
    let named = rw c.in_ok-kind_of.was at c.kind_of.ensures in
    reaches_kind _ _ named.0 (rw named.1 at c.reaches.ensures)
