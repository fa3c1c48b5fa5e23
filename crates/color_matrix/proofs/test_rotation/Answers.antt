-- Each return rewrites the definition's chain with the tests that led there.
use Rattle.sheet.proofs.Answers.{tests, denied, allowed}
use Rattle.color_matrix.specs.ColorMatrix.{rotation_answer}
use Rattle.color_matrix.proofs.test_rotation.Goals as goal

pub returns-then-not-is_finite : goal.returns-then-not-is_finite
unfolding rotation_answer
returns-then-not-is_finite c = search (tests, denied c.is_finite.ensures c.if-not-is_finite.true)

pub returns-then-not-is_finite-2 : goal.returns-then-not-is_finite-2
unfolding rotation_answer
returns-then-not-is_finite-2 c = search (tests, allowed c.is_finite.ensures c.if-not-is_finite.false, denied c.is_finite-2.ensures c.if-not-is_finite-2.true)

pub returns-then-not-unit_pair : goal.returns-then-not-unit_pair
unfolding rotation_answer
returns-then-not-unit_pair c =
    search (tests, allowed c.is_finite.ensures c.if-not-is_finite.false, allowed c.is_finite-2.ensures c.if-not-is_finite-2.false, denied c.unit_pair.ensures c.if-not-unit_pair.true)

pub returns : goal.returns
unfolding rotation_answer
returns c =
    search (tests, allowed c.is_finite.ensures c.if-not-is_finite.false, allowed c.is_finite-2.ensures c.if-not-is_finite-2.false, allowed c.unit_pair.ensures c.if-not-unit_pair.false)
