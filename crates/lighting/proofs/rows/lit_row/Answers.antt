-- Each turn stores one more pixel.
use borrow.Author.Rules.{rules}
use Prim.Native.Nat.{◌+◌}
use native.Mathlib.Omega.{arith}
use lib.ListN.{get_or}
use lib.Ieee.{nan}
use Rattle.sheet.proofs.Places.{place_inside}
use Rattle.sheet.proofs.Strips.{pixel_stored}
use Rattle.lighting.proofs.LitRows.{row_pixel}
use Rattle.lighting.proofs.rows.lit_row.Goals as goal

pub loop-i-preserved : goal.loop-i-preserved
loop-i-preserved c =
    let strip = c.args.row.now.strip in
    let inside = strip.inside in
    let z = place_inside strip.width strip.height (strip.left + c.loop-i.i) c.args.row.now.y 3 (omega arith) c.args.row.now.within (omega arith) in
    pixel_stored c.loop-i.invariant (omega arith) (search rules) c.put.ensures (row_pixel c.args.lighting.reflection c.args.lighting.color (λ j. get_or c.args.factors.now j nan) c.loop-i.i c.lit.ensures)
