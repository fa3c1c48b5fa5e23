-- The roots of the products are the lengths.
use Rattle.lighting.proofs.Passes.{measured}
use Rattle.lighting.proofs.rows.measure.Goals as goal

pub returns : goal.returns
returns g c = measured _ c.fill.ensures c.roots.ensures
