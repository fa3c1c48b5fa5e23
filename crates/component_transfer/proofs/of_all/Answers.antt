-- The four answers are taken together as the definition does.
use Rattle.component_transfer.specs.ComponentTransfer.{functions_answer}
use Rattle.component_transfer.proofs.of_all.Goals as goal

pub returns : goal.returns
unfolding functions_answer
returns c = simp (c.together.ensures, c.together-2.ensures, c.together-3.ensures)
