-- By the cases of the function.
use mathlib.Core.Path.{refl}
use native.Mathlib.Omega.{arith}
use Rattle.message.specs.Fields.{write_shape, write_field}
use Rattle.message.proofs.Puts.{wrote_as}
use Rattle.message.proofs.steps.function.Goals as goal

pub returns-in-Identity-clause-wrote : goal.returns-in-Identity-clause-wrote
unfolding write_shape write_field
returns-in-Identity-clause-wrote c = rw c.in-Identity.is (wrote_as c.row.ensures.wrote refl (omega arith))

pub returns-in-Table-clause-wrote : goal.returns-in-Table-clause-wrote
unfolding write_shape write_field
returns-in-Table-clause-wrote c = rw c.in-Table.is c.list.ensures.wrote

pub returns-in-Discrete-clause-wrote : goal.returns-in-Discrete-clause-wrote
unfolding write_shape write_field
returns-in-Discrete-clause-wrote c = rw c.in-Discrete.is c.list-in-Discrete.ensures.wrote

pub returns-in-Linear-clause-wrote : goal.returns-in-Linear-clause-wrote
unfolding write_shape write_field
returns-in-Linear-clause-wrote c = rw c.in-Linear.is (wrote_as c.row-in-Linear.ensures.wrote (simp (c.bits_of.ensures, c.bits_of-in-Linear.ensures)) (omega arith))
