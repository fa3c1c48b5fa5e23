-- Each case is tested by its own function.
use Rattle.component_transfer.specs.ComponentTransfer.{linear_answer}
use Rattle.component_transfer.proofs.test_function.Goals as goal

pub returns-in-Table : goal.returns-in-Table
returns-in-Table c = rw c.in-Table.is c.test_entries.ensures

pub returns-in-Discrete : goal.returns-in-Discrete
returns-in-Discrete c = rw c.in-Discrete.is c.test_entries-in-Discrete.ensures

pub returns-in-Linear : goal.returns-in-Linear
unfolding linear_answer
returns-in-Linear c = rw c.in-Linear.is c.test.ensures
