-- Each turn stores one pixel of the row.
use borrow.Author.Rules.{rules}
use Prim.Native.Nat.{◌+◌}
use mathlib.Core.Path.{◌≡◌}
use native.Mathlib.Omega.{arith}
use Rattle.sheet.proofs.Strips.{changed_none, pixel_stored}
use Rattle.turbulence.proofs.Bytes.{drawn_pixel}
use Rattle.turbulence.proofs.draw.Drawing.draw_row.Goals as goal

pub loop-i-init : goal.loop-i-init
loop-i-init c = (changed_none _ _ _ _, rw c.point_on.ensures at c.row_at-row.ensures)

pub loop-i-preserved : goal.loop-i-preserved
loop-i-preserved c =
    let pixel = c.pixel.ensures (c.args.strip.first + c.loop-i.i) c.args.y (c.requires.columns_of c.loop-i.i c.loop-i-test.true) c.loop-i.invariant.1 in
    let bytes = drawn_pixel c.args.self.now.t _ c.args.strip.width c.args.strip.first c.loop-i.i c.args.y (omega arith) pixel in
    (pixel_stored c.loop-i.invariant.0 (omega arith) (omega arith) c.put.ensures bytes, c.loop-i.invariant.1)

pub returns : goal.returns
returns c =
    let end : c.loop-i.i ≡ c.args.strip.count = search rules in
    rw end at c.loop-i.invariant.0
