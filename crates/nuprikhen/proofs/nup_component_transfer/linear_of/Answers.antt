-- Each return is its side of the test.
use Rattle.sheet.proofs.Answers.{tests}
use Rattle.nuprikhen.proofs.nup_component_transfer.linear_of.Goals as goal

pub returns-then-values-eq2 : goal.returns-then-values-eq2
returns-then-values-eq2 c = search tests

pub returns : goal.returns
returns c = search tests
