-- Each turn stores the next octave.
use mathlib.Core.Path.{refl, subst}
use native.Mathlib.Nat.{not-suc-le-zero}
use native.Mathlib.Omega.{arith}
use lib.Ieee.{Float}
use Rattle.turbulence.specs.Inner.Rows.{doubled}
use Rattle.turbulence.proofs.Filled.{stored_more}
use Rattle.turbulence.proofs.Octaves.{doubled_once}
use Rattle.turbulence.proofs.noise.store_octaves.Goals as goal

pub loop-octave-init : goal.loop-octave-init
unfolding doubled
loop-octave-init g c = ((λ k z h. absurd (not-suc-le-zero h)), refl)

pub loop-octave-preserved : goal.loop-octave-preserved
loop-octave-preserved g c =
    let made = subst (λ (y : Float). g.F.Fn.post c.args.at (y, tt) c.at.result) c.loop-octave.invariant.1 c.at.ensures in
    (stored_more (λ k x. g.F.Fn.post c.args.at (doubled k c.args.start, tt) x) c.loop-octave.octaves c.loop-octave.octave-index c.at.result (omega arith) c.loop-octave.invariant.0 made, doubled_once _ _ _ c.loop-octave.invariant.1)

pub returns : goal.returns
returns g c = λ k z h. c.loop-octave.invariant.0 k z (omega arith)
