-- Each turn stores one pixel, whose bytes are the definition's.
use Prim.Native.Nat.{◌+◌, ◌*◌}
use mathlib.Core.Path.{◌≡◌}
use native.Mathlib.Omega.{arith}
use Rattle.sheet.proofs.Filling.{paint_start, paint_pixel, paint_done}
use Rattle.composite.specs.Composite.{composed}
use Rattle.composite.proofs.Bytes.{composed_pixel}
use Rattle.composite.proofs.compose.Goals as goal

pub loop-i-init : goal.loop-i-init
loop-i-init c = paint_start _ _ (rw c.requires.dest_len c.requires.src1_len)

pub loop-i-preserved : goal.loop-i-preserved
loop-i-preserved c =
    let next : 4 * c.loop-i.i + 4 ≡ 4 * (c.loop-i.i + 1) = omega arith in
    rw next at (paint_pixel c.loop-i.invariant (omega arith) c.put.ensures
    (composed_pixel c.args.k c.args.src1.now c.args.src2.now (4 * c.loop-i.i) c.at-c1.ensures c.at-c2.ensures c.loop-i.invariant.aligned c.composed.ensures))

pub returns : goal.returns
unfolding composed
returns c = paint_done c.loop-i.invariant (omega arith) c.requires.dest_len
