-- Each return rewrites the definition with the test that led there.
use Rattle.sheet.proofs.Answers.{tests}
use Rattle.sheet.specs.Size.{lengths_answer}
use Rattle.nuprikhen.proofs.leaves.test.Goals as goal

pub returns-then-b-a : goal.returns-then-b-a
unfolding lengths_answer
returns-then-b-a c = search tests

pub returns : goal.returns
unfolding lengths_answer
returns c = search tests
