-- Each call gives the entry that stands at its place.
use borrow.Author.Rules.{rules}
use lib.Ieee.{nan}
use Rattle.turbulence.specs.Gradient.{side_by_side}
use Rattle.turbulence.proofs.Made.{made}
use Rattle.turbulence.proofs.tables.side_by_side.Goals as goal

pub returns : goal.returns
unfolding side_by_side
returns c = made _ _ 2056 _ nan (λ i y q b r. search rules) c.from_fn.ensures.items
