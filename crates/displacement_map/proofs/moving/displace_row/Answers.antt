-- Each turn stores one more pixel.
use Rattle.std.proofs.Common.{◌≡◌, ◌+◌, ◌*◌, arith, lit<}
use Rattle.sheet.proofs.Places.{place_inside}
use Rattle.sheet.proofs.Strips.{pixel_stored}
use Rattle.displacement_map.proofs.Bytes.{pixel_moved}
use Rattle.displacement_map.proofs.moving.displace_row.Goals as goal

pub loop-x-preserved : goal.loop-x-preserved
loop-x-preserved c =
    let at : 4 * (c.args.y * c.args.picture.now.width + c.loop-x.x) ≡ 4 * (c.args.y * c.args.picture.now.width) + 4 * c.loop-x.x = omega arith in
    let inside = place_inside c.args.picture.now.width c.args.picture.now.height c.loop-x.x c.args.y 3 c.loop-x-test.true c.requires.y_in_bounds (lit< tt) in
    pixel_stored c.loop-x.invariant (omega arith) (omega arith) (rw at at c.put.ensures)
    (pixel_moved c.args.columns.now c.args.rows.now c.args.picture.now c.args.map.now c.loop-x.x c.args.y _ _ _ _ c.loop-x-test.true c.at-pixel.ensures c.place.ensures.value c.place-in-loop-x.ensures.value c.moved-moved.ensures)
