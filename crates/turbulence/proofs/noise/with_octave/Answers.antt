-- As it is, or absolutely.
use borrow.Author.Rules.{rules}
use lib.Ieee.{nan}
use Rattle.turbulence.proofs.Made.{made}
use Rattle.turbulence.proofs.Octaves.{as_it_is, absolutely}
use Rattle.turbulence.proofs.noise.with_octave.Goals as goal

pub returns-then-fractal : goal.returns-then-fractal
returns-then-fractal c = as_it_is c.args.fractal c.args.tables.now c.args.point.now c.args.inverse _ (made _ _ 4 _ nan (λ i y q b r. search rules) c.from_fn-noises.ensures.items) c.if-fractal.true (made _ _ 4 _ nan (λ i y q b r. search rules) c.from_fn.ensures.items)

pub returns-else-fractal : goal.returns-else-fractal
returns-else-fractal c = absolutely c.args.fractal c.args.tables.now c.args.point.now c.args.inverse _ (made _ _ 4 _ nan (λ i y q b r. search rules) c.from_fn-noises.ensures.items) c.if-fractal.false (made _ _ 4 _ nan (λ i y q b r. search rules) c.from_fn-else-fractal.ensures.items)
