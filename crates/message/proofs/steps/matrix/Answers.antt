-- By the cases of the matrix.
use mathlib.Core.Path.{refl}
use native.Mathlib.Omega.{arith}
use Rattle.message.specs.Fields.{write_shape, write_field}
use Rattle.message.proofs.Puts.{wrote_as}
use Rattle.message.proofs.steps.matrix.Goals as goal

pub returns-in-Matrix-clause-wrote : goal.returns-in-Matrix-clause-wrote
unfolding write_shape write_field
returns-in-Matrix-clause-wrote c = rw c.in-Matrix.is c.list.ensures.wrote

pub returns-in-Saturate-clause-wrote : goal.returns-in-Saturate-clause-wrote
unfolding write_shape write_field
returns-in-Saturate-clause-wrote c = rw c.in-Saturate.is (wrote_as c.row.ensures.wrote (simp (c.bits_of.ensures)) (omega arith))

pub returns-in-HueRotate-clause-wrote : goal.returns-in-HueRotate-clause-wrote
unfolding write_shape write_field
returns-in-HueRotate-clause-wrote c = rw c.in-HueRotate.is (wrote_as c.row-in-HueRotate.ensures.wrote (simp (c.bits_of-in-HueRotate.ensures, c.bits_of-in-HueRotate-2.ensures)) (omega arith))

pub returns-in-LuminanceToAlpha-clause-wrote : goal.returns-in-LuminanceToAlpha-clause-wrote
unfolding write_shape write_field
returns-in-LuminanceToAlpha-clause-wrote c = rw c.in-LuminanceToAlpha.is (wrote_as c.row-in-LuminanceToAlpha.ensures.wrote refl (omega arith))
