-- Each case is the definition's.
use Rattle.component_transfer.proofs.functions.is_dummy.Goals as goal

pub returns-in-Table : goal.returns-in-Table
returns-in-Table c = rw c.in-Table.is

pub returns-in-Discrete : goal.returns-in-Discrete
returns-in-Discrete c = rw c.in-Discrete.is
