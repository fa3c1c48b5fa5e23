-- The lengths are tested first, and what passes is handed on.
use mathlib.Core.Path.{refl, sym, ◌∙◌}
use Rattle.sheet.proofs.Contracts.{filtered_refused, filtered_done}
use Rattle.sheet.proofs.Tabulated.{copied_all}
use Rattle.nuprikhen.proofs.Calls.{pair_same}
use Rattle.nuprikhen.proofs.leaves.copy_into.Goals as goal

pub returns-in_err-test : goal.returns-in_err-test
returns-in_err-test c = filtered_refused (sym c.test.ensures ∙ c.in_err-test.was) c.from_residual.ensures.1 refl

pub returns : goal.returns
returns c =
    filtered_done (sym c.test.ensures ∙ c.in_ok-test.was) (c.copy.ensures ∙ copied_all _ _ (pair_same c.test.ensures c.in_ok-test.was))
