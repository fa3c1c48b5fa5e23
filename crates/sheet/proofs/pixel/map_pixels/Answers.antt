-- The pixels passed are mapped.
use native.Mathlib.Omega.{arith}
use Rattle.sheet.proofs.Mapping.{mapping_start, mapping_pixel, mapping_done}
use Rattle.sheet.proofs.pixel.map_pixels.Goals as goal

pub loop-i-init : goal.loop-i-init
loop-i-init g c = mapping_start _ _ _

pub loop-i-preserved : goal.loop-i-preserved
loop-i-preserved g c = rw c.put.ensures (mapping_pixel _ _ c.at.result c.f.result c.loop-i.invariant (omega arith) c.at.ensures c.f.ensures)

pub returns : goal.returns
returns g c = mapping_done _ _ c.loop-i.i c.loop-i.invariant (let z = c.requires.pixels in omega arith)
