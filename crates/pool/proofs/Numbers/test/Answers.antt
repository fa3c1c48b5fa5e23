-- A range that lies in the pool is a part of it, which is tested as any numbers are.
use mathlib.Core.Path.{ap, ◌∙◌}
use Rattle.sheet.proofs.Answers.{tests, denied, allowed}
use Rattle.pool.specs.Pool.{numbers_answer, range_answer}
use Rattle.pool.proofs.Numbers.test.Goals as goal

pub returns-then-not-is_in : goal.returns-then-not-is_in
unfolding range_answer
returns-then-not-is_in c = search (tests, denied c.is_in.ensures c.if-not-is_in.true)

pub returns : goal.returns
unfolding range_answer
returns c = c.test.ensures ∙ (ap numbers_answer c.part.ensures ∙ rw (allowed c.is_in.ensures c.if-not-is_in.false))
