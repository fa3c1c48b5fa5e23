-- The kind, and then the numbers of the range, which are no more than it says.
use mathlib.Core.Path.{ap}
use mathlib.Core.List.{◌∷◌}
use native.Mathlib.Omega.{arith}
use Rattle.message.specs.Fields.{write_numbers}
use Rattle.message.proofs.Puts.{wrote_then, wrote_as}
use Rattle.message.proofs.Cases.{numbers_few}
use Rattle.message.proofs.steps.list.Goals as goal

pub numbers-requires : goal.numbers-requires
numbers-requires c =
    let few = numbers_few c.args.range c.args.pool.now c.part.ensures in
    let kind = c.number.ensures.wrote.bounded in
    let r = c.requires in
    omega arith

pub returns-clause-wrote : goal.returns-clause-wrote
returns-clause-wrote c =
    let few = numbers_few c.args.range c.args.pool.now c.part.ensures in
    wrote_as (wrote_then c.number.ensures.wrote c.numbers.ensures.wrote) (ap (λ l. c.args.kind ∷ write_numbers l) c.part.ensures) (omega arith)
