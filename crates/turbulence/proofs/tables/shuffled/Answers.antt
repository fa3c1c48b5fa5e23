-- The invariant: what is left to exchange leads to the order.
use borrow.Author.Rules.{rules}
use mathlib.Core.Path.{ap}
use native.Mathlib.Omega.{arith}
use Rattle.turbulence.specs.Selector.{shuffle, order}
use Rattle.turbulence.proofs.Exchange.{shuffle_turn, shuffle_end}
use Rattle.turbulence.proofs.tables.shuffled.Goals as goal

pub loop-i-init : goal.loop-i-init
unfolding order
loop-i-init c = (c.requires, search rules, ap (shuffle 255 c.args.state) c.count_up-places.ensures)

pub loop-i-preserved : goal.loop-i-preserved
loop-i-preserved c =
    (c.random-drawn.ensures.1, omega arith, rw c.exchange.ensures (shuffle_turn _ _ _ _ _ (omega arith) c.random-drawn.ensures.0 c.loop-i.invariant.2))

pub returns : goal.returns
returns c = shuffle_end _ _ _ _ (omega arith) c.loop-i.invariant.2
