-- Each turn stores one pixel of the row.
use Prim.Native.Nat.{◌+◌, ◌*◌}
use mathlib.Core.Path.{◌≡◌}
use native.Mathlib.Omega.{arith}
use Rattle.sheet.proofs.Strips.{pixel_stored}
use Rattle.convolve_matrix.proofs.Summing.{line_inside}
use Rattle.convolve_matrix.proofs.Finishing.{pixel_finished}
use Rattle.convolve_matrix.proofs.strip.Strip.finish_row.Goals as goal

pub loop-i-preserved : goal.loop-i-preserved
loop-i-preserved c =
    let inside = line_inside c.args.self.now.whole.width c.args.self.now.whole.height c.args.y c.requires.row in
    let first = 4 * (c.args.y * c.args.self.now.whole.width + c.args.self.now.x) in
    let own : first + 4 * c.loop-i.i + 3 ≡ first + (4 * c.loop-i.i + 3) = omega arith in
    pixel_stored c.loop-i.invariant (omega arith) (omega arith) c.put.ensures
    (pixel_finished c.args.self.now.whole.matrix c.args.sums.now c.args.self.now.whole.src.now _ (4 * c.loop-i.i) (omega arith) (rw own at c.finished-pixel.ensures))
