-- Each element is what the closure makes of it.
use borrow.Author.Rules.{rules}
use lib.Ieee.{nan, binary32}
use Rattle.floats.specs.Root.{sqrt_of}
use Rattle.nuprikhen.proofs.Mapping.{mapped_called}
use Rattle.nuprikhen.proofs.leaves.nup_sqrt32.Goals as goal

pub returns : goal.returns
returns c = mapped_called (sqrt_of binary32) nan _ _ _ c.map_into.ensures c.from.ensures (λ x y p. search rules)
