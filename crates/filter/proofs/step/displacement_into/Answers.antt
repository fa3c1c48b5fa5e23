-- Its call passes the tests that the runner passed.
use Rattle.sheet.proofs.Contracts.{holds_new}
use Rattle.displacement_map.specs.DisplacementMap.{answer}
use Rattle.filter.proofs.Acting.{passed}
use Rattle.filter.proofs.step.displacement_into.Goals as goal

pub returns : goal.returns
unfolding answer
returns c =
    holds_new c.apply.ensures.held (passed c.requires.out_value c.requires.scale_value)
