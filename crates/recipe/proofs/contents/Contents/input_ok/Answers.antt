-- The test against the output, then what the slot holds.
use mathlib.Core.Path.{ap, ◌∙◌}
use borrow.Author.Tests.{ne_eqb}
use Rattle.sheet.proofs.Answers.{tests}
use Rattle.recipe.specs.Contents.{is_sheet}
use Rattle.recipe.specs.Tests.{input_ok}
use Rattle.recipe.proofs.contents.Contents.input_ok.Goals as goal

pub returns-then-slot-output : goal.returns-then-slot-output
unfolding input_ok
returns-then-slot-output c = rw (ne_eqb _ _ c.if-slot-output.true) (c.is_some.ensures ∙ ap is_sheet c.of.ensures)

pub returns-else-slot-output : goal.returns-else-slot-output
unfolding input_ok
returns-else-slot-output c = search tests
