-- Each element is what the closure makes of it.
use borrow.Author.Rules.{rules}
use lib.Ieee.{nan}
use Rattle.floats.specs.Round.{round_to}
use Rattle.nuprikhen.proofs.Mapping.{mapped_called}
use Rattle.nuprikhen.proofs.leaves.nup_round_to_i32s.Goals as goal

pub returns : goal.returns
returns c = mapped_called (round_to 31) nan _ _ _ c.map_into.ensures c.from.ensures (λ x y p. search rules)
