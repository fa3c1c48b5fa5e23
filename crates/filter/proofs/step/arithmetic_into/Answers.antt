-- Its call passes the tests that the runner passed.
use Rattle.sheet.proofs.Contracts.{holds_new}
use Rattle.composite.specs.Composite.{answer}
use Rattle.filter.proofs.Acting.{passed}
use Rattle.filter.proofs.step.arithmetic_into.Goals as goal

pub returns : goal.returns
unfolding answer
returns c =
    holds_new c.arithmetic.ensures.held (passed c.requires.out_value c.requires.k4_value)
