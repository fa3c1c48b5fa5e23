-- Before step i no step was refused, and the slots hold what the steps before it made.
use mathlib.Core.Path.{◌≡◌}
use Prim.Native.Nat.{◌≤◌}
use Rattle.sheet.specs.Answer.{Done}
use Rattle.recipe.specs.Contents.{contents}
use Rattle.recipe.specs.Tests.{step_of, step_limit, steps_answer}
use Rattle.recipe.proofs.tests.recipe_answer.Given as goal

abbrev pub invariant-loop-i : goal.invariant-loop-i
invariant-loop-i l = record {
  few : l.recipe.count ≤ step_limit;
  passed : steps_answer (step_of l.recipe) l.initial.contents.slots l.pool l.i ≡ Done;
  held : l.contents.slots ≡ contents (step_of l.recipe) l.initial.contents.slots l.i;
}
