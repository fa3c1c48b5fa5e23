-- Each call gives its place.
use borrow.Author.Rules.{rules}
use Rattle.turbulence.proofs.Made.{made}
use Rattle.turbulence.proofs.tables.count_up.Goals as goal

pub returns : goal.returns
returns c = made _ _ 256 (λ k. k) 0 (λ i y q b r. search rules) c.from_fn.ensures.items
