-- Each branch is its case of the definition.
use mathlib.Core.Path.{◌∙◌}
use borrow.Author.Rules.{rules}
use Rattle.nuprikhen.proofs.Functions.{below_three, above_three, of_two}
use Rattle.nuprikhen.proofs.nup_component_transfer.Numbered.tested.Goals as goal

pub returns-then-self-lt3 : goal.returns-then-self-lt3
returns-then-self-lt3 c = c.test_function.ensures ∙ (rw c.function.ensures (below_three _ _ c.if-self-lt3.true))

pub returns-then-self-ne3 : goal.returns-then-self-ne3
returns-then-self-ne3 c = above_three _ _ c.if-self-lt3.false c.if-self-ne3.true

pub returns : goal.returns
returns c = c.test_function-2.ensures ∙ (rw c.linear_of.ensures (of_two _ _ c.if-self-ne3.false (search rules)))
