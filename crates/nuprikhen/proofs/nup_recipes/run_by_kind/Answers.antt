-- A number that names no kind is refused, and any other is run by its kind.
use mathlib.Core.Path.{refl}
use Rattle.sheet.proofs.Answers.{passed_on}
use Rattle.nuprikhen.proofs.Recipes.{by_no_kind, by_kind}
use Rattle.nuprikhen.proofs.nup_recipes.run_by_kind.Goals as goal

pub returns-in_err-kind_of : goal.returns-in_err-kind_of
returns-in_err-kind_of c = by_no_kind _ _ (rw c.in_err-kind_of.was at c.kind_of.ensures) (passed_on _ c.from_residual.ensures.1) refl refl

pub returns : goal.returns
returns c =
    let named = rw c.in_ok-kind_of.was at c.kind_of.ensures in
    by_kind _ _ named.0 c.run.ensures (record { same = rw named.1; steps = refl; were = refl; leaves = refl; scratch = refl; clears = refl })
