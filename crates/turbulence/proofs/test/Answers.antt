-- Each return rewrites the definition's chain with the tests that led there.
use Rattle.sheet.proofs.Answers.{tests, denied, allowed}
use Rattle.turbulence.specs.Turbulence.{turbulence_answer}
use Rattle.turbulence.proofs.test.Goals as goal

pub returns-then-not-all_finite : goal.returns-then-not-all_finite
unfolding turbulence_answer
returns-then-not-all_finite c = search (tests, denied c.all_finite.ensures c.if-not-all_finite.true)

pub returns-then-not-all_in_range : goal.returns-then-not-all_in_range
unfolding turbulence_answer
returns-then-not-all_in_range c = search (tests, allowed c.all_finite.ensures c.if-not-all_finite.false, denied c.all_in_range.ensures c.if-not-all_in_range.true)

pub returns : goal.returns
unfolding turbulence_answer
returns c = search (tests, allowed c.all_finite.ensures c.if-not-all_finite.false, allowed c.all_in_range.ensures c.if-not-all_in_range.false)
