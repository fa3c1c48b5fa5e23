-- Each turn adds an octave, and what is left leads to the result.
use mathlib.Core.Path.{refl}
use lib.Ieee.{of_bits}
use Rattle.turbulence.proofs.Octaves.{halved, halved_once, leads_start, leads_more, leads_done}
use Rattle.turbulence.proofs.noise.turbulence.Goals as goal

pub loop-k-init : goal.loop-k-init
unfolding halved
loop-k-init c = ((λ x y a r. leads_start _ _ _ _ _), refl)

pub loop-k-preserved : goal.loop-k-preserved
unfolding of_bits
loop-k-preserved c = (
  (λ x y a r. leads_more c.args.fractal _ c.args.tables.now x y c.args.column.now c.args.row.now c.loop-k.k _ _ c.loop-k.sums _ c.requires refl c.loop-k-test.true a r c.between-point.ensures.0 c.loop-k.invariant.1 c.with_octave-more.ensures (c.loop-k.invariant.0 x y a r)),
  halved_once _ _ c.loop-k.invariant.1,
)

pub returns : goal.returns
returns c = λ x y a r. leads_done _ _ _ _ _ _ c.loop-k.k c.loop-k-test.false (c.loop-k.invariant.0 x y a r)
