-- Each turn stores one more row of the strip.
use Rattle.sheet.proofs.Strips.{worked_row}
use Rattle.lighting.specs.Lighting.{lit_at}
use Rattle.lighting.proofs.apply.light_rows.Goals as goal

pub loop-y-preserved : goal.loop-y-preserved
loop-y-preserved c =
    let strip = c.args.strip in
    worked_row (lit_at c.args.lighting strip.width strip.height c.args.src.now) strip.width strip.left strip.count c.loop-y.y c.light_row.ensures c.loop-y.invariant
