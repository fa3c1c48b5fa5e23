-- No step before step i was refused.
use mathlib.Core.Path.{◌≡◌}
use Rattle.recipe.specs.Tests.{step_of}
use Rattle.message.specs.Answers.{done}
use Rattle.message.specs.Answers.{ranges_answer}
use Rattle.message.proofs.tests.test_ranges.Given as goal

abbrev pub invariant-loop-i : goal.invariant-loop-i
invariant-loop-i l = ranges_answer (step_of l.recipe) l.n l.i ≡ done
