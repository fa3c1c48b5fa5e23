-- Each element is what the closure makes of it.
use borrow.Author.Rules.{rules}
use lib.Ieee.{nan, to_unsigned}
use Rattle.nuprikhen.proofs.Mapping.{mapped_called}
use Rattle.nuprikhen.proofs.leaves.nup_to_bytes.Goals as goal

pub returns : goal.returns
returns c = mapped_called (to_unsigned 8) nan _ _ _ c.map_into.ensures c.from.ensures (λ x y p. search rules)
