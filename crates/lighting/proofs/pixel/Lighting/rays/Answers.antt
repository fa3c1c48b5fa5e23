-- A distant light's ray is the definition's.
use Rattle.lighting.specs.Vectors.{vector}
use Rattle.lighting.proofs.Passes.{distant_ray}
use Rattle.lighting.proofs.pixel.Lighting.rays.Goals as goal

pub returns-in-Distant : goal.returns-in-Distant
returns-in-Distant c =
    distant_ray c.args.self (vector c.in-Distant.x c.in-Distant.y c.in-Distant.z) c.ray_vector-vector.result c.length.result c.in-Distant.is c.ray_vector-vector.ensures c.length.ensures
