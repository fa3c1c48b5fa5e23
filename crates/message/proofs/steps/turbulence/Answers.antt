-- The numbers are what the calls gave.
use mir.Syntax.{w32}
use mir.ValLaws.{to_z-of_z}
use native.Mathlib.Omega.{arith}
use Rattle.std.proofs.Common.{rules}
use Rattle.message.specs.Fields.{write_field, write}
use Rattle.message.specs.Steps.{words_of}
use Rattle.message.proofs.Puts.{wrote_as}
use Rattle.message.proofs.steps.turbulence.Goals as goal

pub returns-clause-wrote : goal.returns-clause-wrote
unfolding words_of write_field write
returns-clause-wrote c =
    let seed = to_z-of_z w32 c.args.t.seed (search rules) in
    wrote_as c.row.ensures.wrote (simp (c.low_half.ensures, c.high_half.ensures, c.low_half-2.ensures, c.high_half-2.ensures, c.low_half-3.ensures, c.high_half-3.ensures, c.low_half-4.ensures, c.high_half-4.ensures, c.low_half-5.ensures, c.high_half-5.ensures, c.low_half-6.ensures, c.high_half-6.ensures, c.bits_of_seed.ensures, c.yes_code.ensures, seed)) (omega arith)
