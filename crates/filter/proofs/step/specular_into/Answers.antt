-- Its call passes the tests that the runner passed.
use Rattle.sheet.proofs.Contracts.{holds_new}
use Rattle.lighting.specs.Lighting.{answer}
use Rattle.filter.proofs.Acting.{passed}
use Rattle.filter.proofs.step.specular_into.Goals as goal

pub returns : goal.returns
unfolding answer
returns c =
    holds_new c.specular_lighting.ensures.held (passed c.requires.out_value c.requires.exponent_value)
