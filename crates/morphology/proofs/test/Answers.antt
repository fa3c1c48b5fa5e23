-- Each return rewrites the definition's chain with the tests that led there.
use Rattle.sheet.proofs.Answers.{tests, denied, allowed}
use Rattle.morphology.specs.Morphology.{radii_answer}
use Rattle.morphology.proofs.test.Goals as goal

pub returns-then-not-is_finite : goal.returns-then-not-is_finite
unfolding radii_answer
returns-then-not-is_finite c = search (tests, denied c.is_finite.ensures c.if-not-is_finite.true)

pub returns-then-not-is_finite-2 : goal.returns-then-not-is_finite-2
unfolding radii_answer
returns-then-not-is_finite-2 c = search (tests, allowed c.is_finite.ensures c.if-not-is_finite.false, denied c.is_finite-2.ensures c.if-not-is_finite-2.true)

pub returns-then-not-within : goal.returns-then-not-within
unfolding radii_answer
returns-then-not-within c =
    search (tests, allowed c.is_finite.ensures c.if-not-is_finite.false, allowed c.is_finite-2.ensures c.if-not-is_finite-2.false, denied c.within.ensures c.if-not-within.true)

pub returns-then-not-within-2 : goal.returns-then-not-within-2
unfolding radii_answer
returns-then-not-within-2 c =
    search (tests, allowed c.is_finite.ensures c.if-not-is_finite.false, allowed c.is_finite-2.ensures c.if-not-is_finite-2.false, allowed c.within.ensures c.if-not-within.false, denied c.within-2.ensures c.if-not-within-2.true)

pub returns : goal.returns
unfolding radii_answer
returns c =
    search (tests, allowed c.is_finite.ensures c.if-not-is_finite.false, allowed c.is_finite-2.ensures c.if-not-is_finite-2.false, allowed c.within.ensures c.if-not-within.false, allowed c.within-2.ensures c.if-not-within-2.false)
