-- Four numbers are tested as any numbers are.
use Rattle.composite.specs.Composite.{factors_answer}
use Rattle.composite.proofs.test.Goals as goal

pub returns : goal.returns
unfolding factors_answer
returns c = c.test.ensures
