-- Each call gives an entry of the order.
use borrow.Author.Rules.{rules}
use Rattle.turbulence.specs.Selector.{selector}
use Rattle.turbulence.proofs.Made.{made}
use Rattle.turbulence.proofs.tables.lattice_selector.Goals as goal

pub returns : goal.returns
unfolding selector
returns c = rw (← c.shuffled-places.ensures) (made _ _ 514 _ 0 (λ i y q b r. search rules) c.from_fn.ensures.items)
