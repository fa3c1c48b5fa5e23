-- Each return rewrites the definition's chain with the tests that led there.
use Rattle.sheet.proofs.Answers.{tests}
use Rattle.nuprikhen.specs.Noise.{named_kind}
use Rattle.nuprikhen.proofs.nup_turbulence.test_named.Goals as goal

pub returns-then-stitch-gt0 : goal.returns-then-stitch-gt0
unfolding named_kind
returns-then-stitch-gt0 c = search tests

pub returns-then-kind-gt1 : goal.returns-then-kind-gt1
unfolding named_kind
returns-then-kind-gt1 c = search tests

pub returns : goal.returns
unfolding named_kind
returns c = search tests
