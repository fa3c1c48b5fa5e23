-- Each turn works on one more strip.
use Prim.Native.Nat.{◌+◌, ◌*◌, min}
use mathlib.Core.Path.{◌≡◌, ◌∙◌}
use native.Mathlib.Omega.{arith}
use Rattle.sheet.specs.Inner.Strips.{strip_limit}
use Rattle.sheet.proofs.Strips.{worked_next, worked_all}
use Rattle.convolve_matrix.specs.ConvolveMatrix.{convolved_by}
use Rattle.convolve_matrix.proofs.strip.Convolution.convolve_into.Goals as goal

pub loop-i-preserved : goal.loop-i-preserved
loop-i-preserved c =
    let z : strip_limit * c.loop-i.i + c.strip_from.result ≡ min (strip_limit * (c.loop-i.i + 1)) c.args.self.now.width = omega arith in
    record { same = omega arith; worked = rw z at (worked_next _ _ c.args.self.now.sized.wide (omega arith) c.convolve_rows.ensures) }

pub returns : goal.returns
unfolding convolved_by
returns c =
    worked_all _ _ c.args.self.now.sized.wide (c.loop-i.invariant.same ∙ c.requires) c.loop-i.invariant.worked (omega arith)
