-- The colour, and then the light by its cases.
use native.Mathlib.Omega.{arith}
use Rattle.message.specs.Fields.{write_field, write}
use Rattle.message.proofs.Puts.{wrote_then, wrote_as}
use Rattle.message.proofs.steps.lit.Goals as goal

pub returns-in-Distant-clause-wrote : goal.returns-in-Distant-clause-wrote
unfolding write_field write
returns-in-Distant-clause-wrote c =
    rw c.in-Distant.is (wrote_as (wrote_then c.row.ensures.wrote c.row-in-Distant.ensures.wrote) (simp (c.from.ensures, c.from-2.ensures, c.from-3.ensures, c.bits_of.ensures, c.bits_of-in-Distant.ensures, c.bits_of-in-Distant-2.ensures)) (omega arith))

pub returns-in-Point-clause-wrote : goal.returns-in-Point-clause-wrote
unfolding write_field write
returns-in-Point-clause-wrote c =
    rw c.in-Point.is (wrote_as (wrote_then c.row.ensures.wrote c.row-in-Point.ensures.wrote) (simp (c.from.ensures, c.from-2.ensures, c.from-3.ensures, c.bits_of-in-Point.ensures, c.bits_of-in-Point-2.ensures, c.bits_of-in-Point-3.ensures)) (omega arith))
