-- A row, the numbers of the kernel, and another row.
use native.Mathlib.Omega.{arith}
use Rattle.message.specs.Fields.{write_field, write}
use Rattle.message.specs.Steps.{words_of}
use Rattle.message.proofs.Puts.{wrote_then, wrote_as}
use Rattle.message.proofs.Cases.{numbers_few}
use Rattle.message.proofs.steps.convolve_matrix.Goals as goal

pub numbers-requires : goal.numbers-requires
numbers-requires c =
    let few = numbers_few c.args.matrix.matrix c.args.pool.now c.part.ensures in
    let a = c.row.ensures.wrote.bounded in
    let r = c.requires in
    omega arith

pub row-requires-2 : goal.row-requires-2
row-requires-2 c =
    let few = numbers_few c.args.matrix.matrix c.args.pool.now c.part.ensures in
    let a = c.row.ensures.wrote.bounded in
    let b = c.numbers.ensures.wrote.bounded in
    let r = c.requires in
    omega arith

pub returns-clause-wrote : goal.returns-clause-wrote
unfolding words_of write_field write
returns-clause-wrote c =
    let few = numbers_few c.args.matrix.matrix c.args.pool.now c.part.ensures in
    wrote_as (wrote_then c.row.ensures.wrote (wrote_then c.numbers.ensures.wrote c.row-2.ensures.wrote)) (simp (c.part.ensures, c.bits_of.ensures, c.bits_of-2.ensures, c.from.ensures, c.yes_code.ensures)) (omega arith)
